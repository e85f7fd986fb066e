pub mod RemainsLaws
pub mod HandLaws
pub mod GatherLaws
pub mod FindLaws
pub mod AdvanceLaws
pub mod CountLaws
pub mod NeedLaws
