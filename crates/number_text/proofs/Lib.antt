mod Buffer
mod NumberLemmas
