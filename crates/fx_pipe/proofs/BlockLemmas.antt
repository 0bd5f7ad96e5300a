-- What the parts of a round leave.
use Rattle.std.proofs.Common.{◌≡◌, ◌⊎◌, inl, inr, ℕ, ◌+◌, Bool, true, false, List, [], ◌∷◌, ◌++◌, Some, Vec, length, if◌then◌else◌, refl, sym, ap, ◌∙◌, subst, arith, append_assoc, append-nil}
use Rattle.std.proofs.lemmas.List.{length-append}
use Rattle.std.specs.Str.{bytes_eq}
use Rattle.std.proofs.lemmas.Bool.{false≢true}
use Rattle.std.proofs.lemmas.Slice.Eq.{bytes_eq-Decides}
use Rattle.std.specs.declared.alloc.Global.{Global}
use Rattle.fx_outside.specs.Outside.{Files, HasRisen, SameFiles, SameBut, Sets}
use Rattle.fx_seq.specs.Filling.{IsQuiet}
use Rattle.fx_seq.specs.declared.source.SourceFrame.{SourceFrame}
use Rattle.fx_pipe.specs.declared.made.Made.{Made}
use Rattle.fx_pipe.specs.Moments.{AreMade, all_of, with_all, with_file}
use Rattle.fx_pipe.specs.Blocks.{Makes, SeesSome, PutBut, PutSome, Spares}
use Rattle.fx_pipe.proofs.MomentLemmas.{all-one, made_more, put_more}

-- ---- making

-- the files of some first moments of a block were made, and these moments are left
pub record HasMade (right : List SourceFrame → ℕ → Made → Type 0) (seen : List SourceFrame) (first : ℕ) (block left : List (List SourceFrame))
    (made : List Made) (now : List SourceFrame) : Type 0 where
  pub some : List (List SourceFrame)
  pub split : block ≡ some ++ left
  pub are : AreMade right seen first some made
  pub sees : now ≡ seen ++ all_of some

module _ (right : List SourceFrame → ℕ → Made → Type 0) (seen : List SourceFrame) (first : ℕ) (block : List (List SourceFrame)) where
  pub made_none : HasMade right seen first block block [] seen
  made_none = record { some = []; split = refl; are = tt; sees = sym (append-nil seen) }

  -- one more
  pub made_one : (f : List SourceFrame) (left : List (List SourceFrame)) (made : List Made) (d : Made) (now : List SourceFrame) (m : ℕ)
      → HasMade right seen first block (f ∷ left) made now → m + length (f ∷ left) ≡ first + length block → right (now ++ f) m d
      → HasMade right seen first block left (made ++ d ∷ []) (now ++ f)
  made_one f left made d now m h count r =
      let at : first + length h.some ≡ m = omega (arith, count, ap length h.split, length-append h.some (f ∷ left)) in
      let one : right (seen ++ all_of h.some ++ f) (first + length h.some) d =
      subst (λ (n : ℕ). right (seen ++ all_of h.some ++ f) n d) (sym at) (subst (λ (xs : List SourceFrame). right (xs ++ f) m d) h.sees r) in
      record {
        some = h.some ++ f ∷ [];
        split = h.split ∙ sym (append_assoc h.some (f ∷ []) left);
        are = made_more right seen first h.some (f ∷ []) made (d ∷ []) h.are (one, tt);
        sees = ap (λ xs. xs ++ f) h.sees ∙ append_assoc seen (all_of h.some) f ∙ ap (λ xs. seen ++ xs) (sym (all-one h.some f));
      }

  -- it was handed one more, or was not
  pub sees_same : (left : List (List SourceFrame)) (made : List Made) (now : List SourceFrame) → HasMade right seen first block left made now
      → SeesSome block seen now
  sees_same left made now h = record { some = h.some; rest = left; split = h.split; seen = h.sees }

  pub sees_one : (f : List SourceFrame) (left : List (List SourceFrame)) (made : List Made) (now : List SourceFrame)
      → HasMade right seen first block (f ∷ left) made now → SeesSome block seen (now ++ f)
  sees_one f left made now h =
      record {
        some = h.some ++ f ∷ [];
        rest = left;
        split = h.split ∙ sym (append_assoc h.some (f ∷ []) left);
        seen = ap (λ xs. xs ++ f) h.sees ∙ append_assoc seen (all_of h.some) f ∙ ap (λ xs. seen ++ xs) (sym (all-one h.some f));
      }

  pub sees_either : (f : List SourceFrame) (left : List (List SourceFrame)) (made : List Made) (now new : List SourceFrame)
      → HasMade right seen first block (f ∷ left) made now → (new ≡ now) ⊎ (new ≡ now ++ f) → SeesSome block seen new
  sees_either f left made now new h (inl e) = subst (λ (xs : List SourceFrame). SeesSome block seen xs) (sym e) (sees_same (f ∷ left) made now h)
  sees_either f left made now new h (inr e) = subst (λ (xs : List SourceFrame). SeesSome block seen xs) (sym e) (sees_one f left made now h)

  -- then not all files were made
  pub made_some : (made : List Made) (new : List SourceFrame) (next : ℕ) → SeesSome block seen new → Makes right first block made seen new next false
  made_some made new next some =
      record {
        next_is = λ is. absurd (false≢true is);
        seen = λ is. absurd (false≢true is);
        right_ones = λ is. absurd (false≢true is);
        some = some;
      }

-- ---- putting

-- a file that is set is one with these bytes
pub with_set : (name bytes : List ℕ) (old new : Files) → Sets name bytes old new → SameFiles (with_file name bytes old) new
with_set name bytes old new sets other = by (bytes_eq name other) refl
  where
    by : (b : Bool) → bytes_eq name other ≡ b → new other ≡ (if bytes_eq name other then Some bytes else old other)
    by true e = rw e (subst (λ (n : List ℕ). new n ≡ Some bytes) ((bytes_eq-Decides name other).0 e) sets.bytes_there)
    by false e = rw e (sets.others other (λ same. false≢true (sym e ∙ (bytes_eq-Decides name other).1 (sym same))))

-- some first files of a block were put, and these are left
pub record HasPut (tells : Type 0) (block left : List Made) (old now : Files) : Type 0 where
  pub some : List Made
  pub split : block ≡ some ++ left
  pub files : tells → SameFiles (with_all some old) now

module _ (tells : Type 0) (block : List Made) (old : Files) where
  pub put_none : HasPut tells block block old old
  put_none = record { some = []; split = refl; files = λ told name. refl }

  pub put_one : (d : Made) (left : List Made) (now new : Files) → HasPut tells block (d ∷ left) old now → (tells → Sets d.name d.bytes.items now new)
      → HasPut tells block left old new
  put_one d left now new h sets =
      record {
        some = h.some ++ d ∷ [];
        split = h.split ∙ sym (append_assoc h.some (d ∷ []) left);
        files = λ told. put_more h.some (d ∷ []) old now new (h.files told) (with_set d.name d.bytes.items now new (sets told));
      }

  pub put_all : (now : Files) → HasPut tells block [] old now → tells → SameFiles (with_all block old) now
  put_all now h told = subst (λ (ds : List Made). SameFiles (with_all ds old) now) (sym (h.split ∙ append-nil h.some)) (h.files told)

  pub put_stops : (d : Made) (left : List Made) (now new : Files) → HasPut tells block (d ∷ left) old now → (tells → SameBut d.name now new)
      → PutBut tells block old new d.name
  put_stops d left now new h but =
      record {
        some = h.some;
        one = d;
        rest = left;
        split = h.split;
        name_is = refl;
        files = λ told other apart. but told other apart ∙ h.files told other;
      }

  -- the files behind it are left
  pub left_stops : (d : Made) (left : List Made) (now new : Files) → HasPut tells block (d ∷ left) old now → (tells → SameBut d.name now new)
      → (put : PutBut tells block old new d.name) × (put.rest ≡ left)
  unfolding put_stops
  left_stops d left now new h but = (put_stops d left now new h but, refl)

  pub put_ends : (left : List Made) (now new : Files) → HasPut tells block left old now → (tells → SameFiles now new) → PutSome tells block old new
  put_ends left now new h same =
      record {
        some = h.some;
        rest = left;
        split = h.split;
        files = λ told name. same told name ∙ h.files told name;
      }

  pub left_ends : (d : Made) (left : List Made) (now new : Files) → HasPut tells block (d ∷ left) old now → (tells → SameFiles now new)
      → (put : PutSome tells block old new) × (one : Made) × (put.rest ≡ one ∷ left)
  unfolding put_ends
  left_ends d left now new h same = (put_ends (d ∷ left) now new h same, d, refl)

-- ---- what is spare

module _ (block : List Made) (old : List (Vec ℕ Global)) where
  pub spares_none : Spares block block old old
  spares_none = record { more = []; behind = sym (append-nil old); few = omega arith }

  -- a file is taken, and its bytes are not kept
  pub spares_same : (d : Made) (left : List Made) (now : List (Vec ℕ Global)) → Spares block (d ∷ left) old now → Spares block left old now
  spares_same d left now h = record { more = h.more; behind = h.behind; few = omega (arith, h.few) }

  -- or they are
  pub spares_either : (d : Made) (left : List Made) (now new : List (Vec ℕ Global)) (bytes : Vec ℕ Global) → Spares block (d ∷ left) old now
      → (new ≡ now) ⊎ (new ≡ now ++ bytes ∷ []) → Spares block left old new
  spares_either d left now new bytes h (inl e) = subst (λ (bs : List (Vec ℕ Global)). Spares block left old bs) (sym e) (spares_same d left now h)
  spares_either d left now new bytes h (inr e) =
      let count : length (h.more ++ bytes ∷ []) ≡ length h.more + 1 = length-append h.more (bytes ∷ []) in
      record {
        more = h.more ++ bytes ∷ [];
        behind = e ∙ ap (λ bs. bs ++ bytes ∷ []) h.behind ∙ append_assoc old h.more (bytes ∷ []);
        few = omega (arith, count, h.few);
      }

pub rose_more : (a b c : ℕ) (x y : List ℕ) → IsQuiet a b x y → HasRisen b c → HasRisen a c
rose_more a b c x y quiet rose = subst (λ (n : ℕ). HasRisen n c) quiet.count rose
