pub mod Tablets
