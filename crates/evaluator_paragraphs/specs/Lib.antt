pub mod Paragraphs
