pub mod OneBody
