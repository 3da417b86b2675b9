mod HeldLaws
mod OneBodyLaws
