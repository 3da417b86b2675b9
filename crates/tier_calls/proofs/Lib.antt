mod RestartLaws
mod AnswerLaws
mod FinishedLaws
mod MadeLaws
mod EntryLaws
mod StaleLaws
