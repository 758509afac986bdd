mod CuttingLemmas
