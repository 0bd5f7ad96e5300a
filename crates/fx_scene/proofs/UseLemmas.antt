-- What uses tell, and what more source frames leave.
use Rattle.std.proofs.Common.{◌≡◌, ℕ, ◌<◌, ◌≤◌, ℤ, pos, ◌≤ℤ◌, List, length, sym, subst, arith, inl, inr}
use Rattle.std.proofs.lemmas.Int.{ints}
use Rattle.std.proofs.lemmas.Bool.{cases_lt}
use Rattle.fx_base.specs.declared.limits.TheConstants.{MOST_NODES}
use Rattle.fx_effect.specs.Laws.{Laws}
use Rattle.fx_effect.specs.Meaning.{Meaning}
use Rattle.fx_effect.specs.Shape.{IsProject}
use Rattle.fx_graph.specs.Shown.{GraphShown}
use Rattle.fx_scene.specs.Depends.{AgreeOnWanted, AreImages}
use Rattle.fx_scene.specs.Scenes.{Images, picture}
use Rattle.fx_scene.proofs.DependLemmas.{pictures_depend}
use Rattle.fx_scene.specs.declared.take.Edit.{Edit}
use Rattle.fx_seq.specs.declared.used.Use.{Use}
use Rattle.fx_scene.specs.Right.{HasGrown, HasWanted}
use Rattle.fx_scene.specs.Holds.{PicturesStay}
use Rattle.fx_scene.specs.Takes.{AreTakes, graph_of_take}
use Rattle.fx_scene.specs.Uses.{AreUses, IsDue, IsHeld, IsUse, UsesTell, Wanting}
use Rattle.fx_scene.proofs.EraLemmas.{take_few}
use Rattle.fx_scene.proofs.RightLemmas.{same_some}

-- ---- when a use is due and held

module _ (W : Wanting) (moments : ℕ) (u : Use) (is : IsUse W moments u) (j : ℕ) (low : j < moments) where
  due_from : IsDue W j u.wanted.node u.wanted.frame → u.from ≡ j
  due_from d = elim (cases_lt u.from j) [
    | inl h ↦ absurd (d.new u.from h is.first)
    | inr h ↦ elim (cases_lt j u.from) [
      | inl l ↦ absurd (is.none_before j l d.wanted)
      | inr l ↦ omega (arith, h, l)
    ]
  ]

  from_due : u.from ≡ j → IsDue W j u.wanted.node u.wanted.frame
  from_due e =
      record {
        wanted = subst (λ (i : ℕ). W i u.wanted.node u.wanted.frame) e is.first;
        new = λ i l w. is.none_before i (omega (arith, l, e)) w;
      }

  held_between : IsHeld W moments j u.wanted.node u.wanted.frame → (u.from < j) × (j ≤ u.until)
  held_between h = (before, later)
    where
      before : u.from < j
      before = elim (cases_lt h.before.0 u.from) [
        | inl l ↦ absurd (is.none_before h.before.0 l h.before.2)
        | inr l ↦ let b = h.before.1 in omega (arith, b, l)
      ]

      later : j ≤ u.until
      later = elim (cases_lt u.until h.later.0) [
        | inl l ↦ absurd (is.none_after h.later.0 l h.later.2 h.later.3)
        | inr l ↦ let b = h.later.1 in omega (arith, b, l)
      ]

  between_held : (u.from < j) × (j ≤ u.until) → IsHeld W moments j u.wanted.node u.wanted.frame
  between_held b =
      record { before = (u.from, b.0, is.first); later = (u.until, b.1, is.end, is.last) }

pub uses_tell : (W : Wanting) → UsesTell W
uses_tell W moments uses are u listed j low =
    let is = are.each u listed in (
      (due_from W moments u is j low, from_due W moments u is j low),
      (held_between W moments u is j low, between_held W moments u is j low),
    )

-- ---- pictures stay

module _ {E : Type 0} (meaning : E → Meaning) (g : GraphShown E) (takes : List (List Edit)) (laws : (e : E) → Laws (meaning e))
    (is : IsProject g.project) (few : length g.nodes ≤ MOST_NODES) (are : AreTakes meaning g takes) where
  pub pictures_stay : PicturesStay meaning g takes
  pictures_stay old new k t is_old is_new grown has =
      let h = graph_of_take g takes k in
      let agree : AgreeOnWanted meaning h h.output t t old new = λ n f w. same_some meaning (old n f) (new n f) (grown n f) (has n f w) in
      pictures_depend meaning h (h.depth, h.components) laws is (take_few meaning g takes laws is few are k) (are k)
      t t old new is_old is_new agree t (omega (arith, ints)) (omega (arith, ints))
