pub mod Forms
pub mod Entering
pub mod KindLaws
pub mod NumberLaws
pub mod QuestionLaws
