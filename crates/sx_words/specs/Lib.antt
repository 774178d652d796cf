pub mod Numbers
pub mod Settings
pub mod Options
pub mod Commands
pub mod Program
pub mod Reading
pub mod Laws
