pub mod Store
pub mod InOrder
pub mod Shows
pub mod Lent
