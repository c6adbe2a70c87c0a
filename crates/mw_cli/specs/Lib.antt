-- In reading order: the files that the words ask for; the text of a run; what an order comes to; what the outside shows; what each
-- status says.
pub mod Files
pub mod Headline
pub mod Verdict
pub mod Outside
pub mod Numbers
pub mod Answers
pub mod Stages
pub mod Products
