pub mod LeafLaws
pub mod SchemaLaws
pub mod ElementLaws
pub mod DeclarationLaws
pub mod RelationLaws
