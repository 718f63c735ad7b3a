pub mod ByteLaws
pub mod CountLaws
pub mod FirstsLaws
