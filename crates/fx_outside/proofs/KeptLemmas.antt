-- What a put leaves in a depot in memory.
use Rattle.std.proofs.Common.{◌≡◌, refl, sym, ℕ, List, Some, Vec, String, true}
use Rattle.std.specs.declared.alloc.Global.{Global}
use Rattle.std.specs.Str.{bytes_eq}
use Rattle.std.specs.BTreeMap.{BTreeMap, get_by_text}
use Rattle.std.specs.Map.{update}
use Rattle.std.proofs.lemmas.Slice.Eq.{bytes_eq-Decides}
use Rattle.std.proofs.lemmas.Bool.{false_from_ne_true}
use Rattle.fx_outside.specs.Outside.{Sets}
use Rattle.fx_outside.specs.Memory.{kept}

pub sets_from_update : (m n : BTreeMap (String Global) (Vec ℕ Global)) (name bytes : List ℕ) (v : Vec ℕ Global) → ((cs : List ℕ) → get_by_text n cs ≡ update bytes_eq (get_by_text m) name (Some v) cs) → v.items ≡ bytes → Sets name bytes (kept m) (kept n)
sets_from_update m n name bytes v h e =
    record {
      bytes_there = let t : bytes_eq name name ≡ true = (bytes_eq-Decides name name).1 refl in rw (h name, t, e) refl;
      others = λ other ne. let f = false_from_ne_true _ (λ t. ne (sym ((bytes_eq-Decides name other).0 t))) in rw (h other, f) refl;
    }
