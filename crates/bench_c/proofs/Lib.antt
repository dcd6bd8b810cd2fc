pub mod FrameCountLaws
pub mod BitFrameCountLaws
