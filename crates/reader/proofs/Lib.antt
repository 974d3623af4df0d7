pub mod CheckLists
pub mod InForce
pub mod Loading
pub mod MarkWords
pub mod ReadLaws
pub mod Refusing
pub mod SoundCalls
