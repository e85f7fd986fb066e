pub mod BytesLaws
pub mod ExportLaws
