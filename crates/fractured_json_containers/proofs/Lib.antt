pub mod AskedKeys
pub mod AskedWalk
pub mod LookupLaws
pub mod QuestionLaws
