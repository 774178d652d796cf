pub mod Transactions
pub mod TransactionDecoding
pub mod Window
pub mod Laws
