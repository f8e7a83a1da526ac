pub mod SchemaNodes
pub mod ParagraphNodes
pub mod Defined
pub mod AbbreviationLaws
pub mod AbbreviationNodes
