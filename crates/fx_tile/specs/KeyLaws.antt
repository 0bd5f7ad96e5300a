-- Equal keys are the same, and so what may be kept under the one may be kept under the other; and what may be kept stays
-- so where a scene has grown.
use Rattle.std.proofs.Common.{◌≡◌, ℕ, ℤ, List, Bool, true, ◌&&◌, nat_eq, refl, sym, subst, arith}
use Rattle.std.specs.Bool.{beq}
use Rattle.std.specs.Cmp.{booleans_Decides, signed_Decides}
use Rattle.std.specs.Cmp.Lexicographic.{pointwise}
use Rattle.std.specs.Ordering.{int_eq}
use Rattle.std.proofs.lemmas.Bool.{and_parts}
use Rattle.std.proofs.lemmas.Bool.Decides.{nat_tests, Decides-int_eq}
use Rattle.std.proofs.lemmas.Slice.Eq.{slice_eq-Decides}
use Rattle.fx_base.specs.Bounds.{Bounds}
use Rattle.fx_image.specs.Stored.{Stored}
use Rattle.fx_effect.specs.Meaning.{Meaning}
use Rattle.fx_effect.specs.declared.values.Values.{Values}
use Rattle.fx_effect.specs.contracts.values.ValuesPartialEq.TheImpl as values
use Rattle.fx_scene.specs.declared.key.Key.{Key}
use Rattle.fx_scene.specs.contracts.key.KeyPartialEq.TheImpl.{eq-value}
use Rattle.fx_graph.specs.Shown.{GraphShown}
use Rattle.fx_scene.specs.declared.take.Edit.{Edit}
use Rattle.fx_scene.specs.Depends.{AreImages}
use Rattle.fx_scene.specs.Right.{HasGrown, IsRightTile, RightStays}
use Rattle.fx_scene.specs.Scenes.{Images, Shot, fetched_in}
use Rattle.fx_scene.specs.Scripts.{HasGrownTo, IsRightFor}

nat_same : (a b : ℕ) → nat_eq a b ≡ true → a ≡ b
nat_same a b e = grind (arith, nat_tests)

int_same : (a b : ℤ) → int_eq a b ≡ true → a ≡ b
int_same a b e = (Decides-int_eq a b).0 e

ints_same : (a b : List ℤ) → pointwise int_eq a b ≡ true → a ≡ b
ints_same a b e = (slice_eq-Decides signed_Decides a b (pointwise int_eq a b) refl).0 e

flags_same : (a b : List Bool) → pointwise beq a b ≡ true → a ≡ b
flags_same a b e = (slice_eq-Decides booleans_Decides a b (pointwise beq a b) refl).0 e

abbrev same_rect : Bounds → Bounds → Bool
same_rect r s = int_eq r.x1 s.x1 && (int_eq r.y1 s.y1 && (int_eq r.x2 s.x2 && int_eq r.y2 s.y2))

rect_of : (r s : Bounds) → r.x1 ≡ s.x1 → r.y1 ≡ s.y1 → r.x2 ≡ s.x2 → r.y2 ≡ s.y2 → r ≡ s
rect_of r s a b c d i = record { x1 = a i; y1 = b i; x2 = c i; y2 = d i }

rect_same : (r s : Bounds) → same_rect r s ≡ true → r ≡ s
rect_same r s e =
    let p = and_parts (int_eq r.x1 s.x1) _ e in
    let q = and_parts (int_eq r.y1 s.y1) _ p.1 in
    let t = and_parts (int_eq r.x2 s.x2) _ q.1 in
    rect_of r s (int_same r.x1 s.x1 p.0) (int_same r.y1 s.y1 q.0) (int_same r.x2 s.x2 t.0) (int_same r.y2 s.y2 t.1)

values_of : (u v : Values) → u.frame ≡ v.frame → u.numbers ≡ v.numbers → u.connected ≡ v.connected
    → u.project ≡ v.project → u ≡ v
values_of u v a b c d i = record { frame = a i; numbers = b i; connected = c i; project = d i }

values_same : (u v : Values) → values.eq-value.it u v ≡ true → u ≡ v
values_same u v e =
    let p = and_parts (int_eq u.frame v.frame) _ e in
    let q = and_parts (pointwise int_eq u.numbers v.numbers) _ p.1 in
    let t = and_parts (pointwise beq u.connected v.connected) (same_rect u.project v.project) q.1 in
    values_of u v (int_same u.frame v.frame p.0) (ints_same u.numbers v.numbers q.0)
    (flags_same u.connected v.connected t.0) (rect_same u.project v.project t.1)

key_of : (j k : Key) → j.node ≡ k.node → j.frame ≡ k.frame → j.region ≡ k.region → j.values ≡ k.values
    → j.era ≡ k.era → j ≡ k
key_of j k a b c d e i = record { node = a i; frame = b i; region = c i; values = d i; era = e i }

pub same_key : (j k : Key) → eq-value.it j k ≡ true → j ≡ k
same_key j k e =
    let p = and_parts (nat_eq j.node k.node) _ e in
    let q = and_parts (int_eq j.frame k.frame) _ p.1 in
    let r = and_parts (same_rect j.region k.region) _ q.1 in
    let t = and_parts (values.eq-value.it j.values k.values) (nat_eq j.era k.era) r.1 in
    key_of j k (nat_same j.node k.node p.0) (int_same j.frame k.frame q.0) (rect_same j.region k.region r.0)
    (values_same j.values k.values t.0) (nat_same j.era k.era t.1)

pub right_under : {E : Type 0} (meaning : E → Meaning) (scene : Shot E) (j k : Key) (image : Stored)
    → eq-value.it j k ≡ true → IsRightFor meaning scene j image → IsRightFor meaning scene k image
right_under meaning scene j k image same right =
    subst (λ (i : Key). IsRightFor meaning scene i image) (same_key j k same) right

-- ---- names that grow

-- the second scene is one that the first has grown to, and what is right of it stays right
pub record MayGrow {E : Type 0} (meaning : E → Meaning) (old new : Shot E) : Type 0 where
  pub grown : HasGrownTo old new
  pub images : AreImages (fetched_in new.store)
  pub stays : RightStays meaning new.script.written new.script.takes

-- what the first one fetched are images of frames too
among_images : (old new : Images) → HasGrown old new → AreImages new → AreImages old
among_images old new grown are n f image is = are n f image (grown n f image is)

pub right_still : {E : Type 0} (meaning : E → Meaning) (old new : Shot E) (k : Key) (image : Stored)
    → MayGrow meaning old new → IsRightFor meaning old k image → IsRightFor meaning new k image
right_still {E} meaning old new k image may right =
    may.stays (fetched_in old.store) (fetched_in new.store) k image
    (among_images (fetched_in old.store) (fetched_in new.store) may.grown.among may.images) may.images may.grown.among
    (subst (λ (takes : List (List Edit)). IsRightTile meaning new.script.written takes (fetched_in old.store) k image)
    (sym may.grown.takes)
    (subst (λ (g : GraphShown E). IsRightTile meaning g old.script.takes (fetched_in old.store) k image)
    (sym may.grown.written) right))
