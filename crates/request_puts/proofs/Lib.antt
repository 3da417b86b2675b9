mod PutLaws
mod ReadLaws
