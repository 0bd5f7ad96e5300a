pub mod Shipped
pub mod ShippedLaws
