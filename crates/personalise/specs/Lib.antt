pub mod Personalise
