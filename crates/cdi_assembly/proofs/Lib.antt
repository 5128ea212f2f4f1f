mod PutLemmas
mod StepLemmas
