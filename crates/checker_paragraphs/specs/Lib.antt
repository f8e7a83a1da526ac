pub mod Abbreviations
