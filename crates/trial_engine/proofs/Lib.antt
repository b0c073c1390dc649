mod ToldLemmas
mod SceneLemmas
