pub mod PendingLaws
pub mod ComparingLaws
pub mod Linking
pub mod MeetingLaws
pub mod Walking
pub mod Tying
pub mod Turns
