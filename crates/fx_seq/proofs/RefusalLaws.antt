-- What the first refusal of a list is.
use Rattle.std.proofs.Common.{◌≡◌, ◌≤◌, ℕ, ◌+◌, List, [], ◌∷◌, ◌++◌, Option, Some, None, Bool, true, false, nat_lt, refl, sym, ap, ◌∙◌, arith}
use Rattle.std.proofs.lemmas.Bool.{le-ltb}
use Rattle.std.proofs.lemmas.Bool.Decides.{nat_tests}
use Rattle.std.proofs.lemmas.List.Sums.{sum_by-cons}
use Rattle.std.proofs.lemmas.List.Elements.{All-from_recursion, recursion_from_All}
use Rattle.std.proofs.lemmas.Option.{none-some}
use Rattle.std.specs.List.{AllByRecursion}
use Rattle.std.specs.Option.{option_or}
use Rattle.std.specs.Prelude.{All, if◌then◌else◌}
use Rattle.fx_outside.specs.Outside.{Files}
use Rattle.fx_pam.specs.declared.fault.PamFault.{PamFault}
use Rattle.fx_pam.specs.Reading.{pam_fault}
use Rattle.fx_seq.specs.declared.wanted.Wanted.{Wanted}
use Rattle.fx_seq.specs.declared.fault.SeqFault.{SeqFault}
use Rattle.fx_seq.specs.Filling.{refusal, refusal_of, refusal_read, size_under, first_refused, IsReadable, wanted_size, RefusedAt}

-- a sum that is not above the limit
within : (limit n : ℕ) (e : SeqFault) (b : Bool) → nat_lt limit n ≡ b → (if b then Some e else None) ≡ None → n ≤ limit
within limit n e true is h = absurd (none-some e (sym h))
within limit n e false is h = grind (arith, nat_tests)

read_of : (limit n : ℕ) (w : Wanted) (o : Option PamFault) → refusal_read limit w n o ≡ None → (o ≡ None) × (n ≤ limit)
read_of limit n w (Some fault) h = absurd (none-some _ (sym h))
read_of limit n w None h = (refl, within limit n _ (nat_lt limit n) refl h)

readable_of : (side limit n : ℕ) (w : Wanted) (o : Option (List ℕ)) → refusal_of side limit w n o ≡ None → ((bytes : List ℕ) × (o ≡ Some bytes) × (pam_fault bytes side ≡ None)) × (n ≤ limit)
readable_of side limit n w None h = absurd (none-some _ (sym h))
readable_of side limit n w (Some bytes) h = let r = read_of limit n w (pam_fault bytes side) h in ((bytes, refl, r.0), r.1)

accepts_one : (files : Files) (side limit sum : ℕ) (w : Wanted) → IsReadable files side w → sum + size_under files w.name ≤ limit → refusal files side limit sum w ≡ None
accepts_one files side limit sum w r fits =
    let n = sum + size_under files w.name in
    ap (refusal_of side limit w n) r.1 ∙ ap (refusal_read limit w n) r.2 ∙ rw (le-ltb limit n fits) refl

neither : (a b : Option SeqFault) → option_or a b ≡ None → (a ≡ None) × (b ≡ None)
neither None b h = (refl, h)
neither (Some e) b h = absurd (none-some e (sym h))

module _ (files : Files) (side limit : ℕ) where
  size_more : (w : Wanted) (ws : List Wanted) → wanted_size files (w ∷ ws) ≡ size_under files w.name + wanted_size files ws
  size_more w ws = sum_by-cons (λ v. size_under files v.name) w ws

  accepted_to : (ws : List Wanted) (sum : ℕ) → sum ≤ limit → first_refused files side limit sum ws ≡ None → AllByRecursion (IsReadable files side) ws × (sum + wanted_size files ws ≤ limit)
  accepted_to [] sum low h = (tt, omega (arith, low))
  accepted_to (w ∷ ws) sum low h =
      let n = sum + size_under files w.name in
      let p = neither (refusal files side limit sum w) (first_refused files side limit n ws) h in
      let r = readable_of side limit n w (files w.name) p.0 in
      let rest = accepted_to ws n r.1 p.1 in
      ((r.0, rest.0), omega (arith, rest.1, size_more w ws))

  accepted_from : (ws : List Wanted) (sum : ℕ) → AllByRecursion (IsReadable files side) ws → sum + wanted_size files ws ≤ limit → first_refused files side limit sum ws ≡ None
  accepted_from [] sum all low = refl
  accepted_from (w ∷ ws) sum all low =
      let n = sum + size_under files w.name in
      let one : refusal files side limit sum w ≡ None = accepts_one files side limit sum w all.0 (omega (arith, low, size_more w ws)) in
      ap (λ o. option_or o (first_refused files side limit n ws)) one ∙ accepted_from ws n all.1 (omega (arith, low, size_more w ws))

  -- none is refused where each can be read and their sizes fit
  pub accepted-readable : (ws : List Wanted) → first_refused files side limit 0 ws ≡ None → All (IsReadable files side) ws × (wanted_size files ws ≤ limit)
  accepted-readable ws h = let p = accepted_to ws 0 (omega arith) h in (All-from_recursion (IsReadable files side) ws p.0, omega (arith, p.1))

  pub readable-accepted : (ws : List Wanted) → All (IsReadable files side) ws → wanted_size files ws ≤ limit → first_refused files side limit 0 ws ≡ None
  readable-accepted ws all low = accepted_from ws 0 (recursion_from_All (IsReadable files side) ws all) (omega (arith, low))

  -- after frames that are not refused the others are looked at with their size
  rest_after : (ws rest : List Wanted) (sum : ℕ) → first_refused files side limit sum ws ≡ None → first_refused files side limit sum (ws ++ rest) ≡ first_refused files side limit (sum + wanted_size files ws) rest
  rest_after [] rest sum h = ap (λ n. first_refused files side limit n rest) (omega arith)
  rest_after (w ∷ ws) rest sum h =
      let n = sum + size_under files w.name in
      let p = neither (refusal files side limit sum w) (first_refused files side limit n ws) h in
      let e : n + wanted_size files ws ≡ sum + wanted_size files (w ∷ ws) = omega (arith, size_more w ws) in
      ap (λ o. option_or o (first_refused files side limit n (ws ++ rest))) p.0 ∙ rest_after ws rest n p.1 ∙ ap (λ m. first_refused files side limit m rest) e

  pub refused-first : (ws : List Wanted) (e : SeqFault) → RefusedAt files side limit ws e → first_refused files side limit 0 ws ≡ Some e
  refused-first ws e r =
      let n = wanted_size files r.before in
      ap (first_refused files side limit 0) r.split
      ∙ rest_after r.before (r.one ∷ r.after) 0 r.accepted
      ∙ ap (λ m. first_refused files side limit m (r.one ∷ r.after)) (omega arith)
      ∙ ap (λ o. option_or o (first_refused files side limit (n + size_under files r.one.name) r.after)) r.refused

  abbrev Found : List Wanted → ℕ → SeqFault → Type 0
  Found ws sum e = (before : List Wanted) × (w : Wanted) × (after : List Wanted) × (ws ≡ before ++ w ∷ after) × (first_refused files side limit sum before ≡ None) × (refusal files side limit (sum + wanted_size files before) w ≡ Some e)

  found_in : (ws : List Wanted) (sum : ℕ) (e : SeqFault) → first_refused files side limit sum ws ≡ Some e → Found ws sum e
  found_in [] sum e h = absurd (none-some e h)
  found_in (v ∷ ws) sum e h = by (refusal files side limit sum v) refl h (found_in ws (sum + size_under files v.name) e)
    where
      n : ℕ
      n = sum + size_under files v.name

      by : (o : Option SeqFault) → refusal files side limit sum v ≡ o → option_or o (first_refused files side limit n ws) ≡ Some e → (first_refused files side limit n ws ≡ Some e → Found ws n e) → Found (v ∷ ws) sum e
      by (Some f) is told later = ([], v, ws, refl, refl, ap (λ m. refusal files side limit m v) (omega arith) ∙ is ∙ told)
      by None is told later =
          let r = later told in
          let m : sum + wanted_size files (v ∷ r.0) ≡ n + wanted_size files r.0 = omega (arith, size_more v r.0) in
          (v ∷ r.0, r.1, r.2, ap (λ xs. v ∷ xs) r.3, ap (λ o. option_or o (first_refused files side limit n r.0)) is ∙ r.4, ap (λ k. refusal files side limit k r.1) m ∙ r.5)

  pub first-refused : (ws : List Wanted) (e : SeqFault) → first_refused files side limit 0 ws ≡ Some e → RefusedAt files side limit ws e
  first-refused ws e h =
      let r = found_in ws 0 e h in
      record { before = r.0; one = r.1; after = r.2; split = r.3; accepted = r.4; refused = ap (λ k. refusal files side limit k r.1) (omega arith) ∙ r.5 }
