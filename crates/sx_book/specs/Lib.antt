pub mod Books
pub mod Store
