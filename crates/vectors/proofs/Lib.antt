pub mod Digits
pub mod LikeKeys
