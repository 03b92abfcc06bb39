pub mod Words
pub mod Command
pub mod Language
pub mod Table
pub mod Asked
pub mod Said
pub mod Text
