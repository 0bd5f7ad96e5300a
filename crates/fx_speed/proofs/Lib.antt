mod EffectLemmas
