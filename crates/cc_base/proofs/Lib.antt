pub mod HexLemmas
mod FaceExamples
