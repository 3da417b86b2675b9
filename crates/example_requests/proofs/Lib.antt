mod PutLaws
mod FoundLaws
mod ServedLaws
mod WriteLaws
