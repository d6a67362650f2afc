pub mod BookText
