-- What the values of a list that is expanded and those of the list itself have in common, name by name.
use Rattle.std.proofs.Common.{◌≡◌, refl, ap, sym, ◌∙◌, ℕ, Bool, true, false, List, [], ◌∷◌, ◌++◌, append_assoc, Option, Some, None, unwrap_or, bytes_eq, if◌then◌else◌}
use Rattle.std.specs.Option.{option_or}
use Rattle.fx_group.specs.Names.{look, has_slash}
use Rattle.fx_group.specs.Expansion.{Targets, meant, prefixed}
use Rattle.fx_group.specs.Instances.{Values}
use Rattle.fx_group.proofs.Texts.{other_text, text_other, cancel, prefixed_eq, slashless, before_slash, or_none, not_none, look-append, AreUnder}

-- under a prefix each text shows in the expanded list what it shows in the list itself, and the names that are still free
-- are free with whatever follows a slash
pub record Fits {V : Type 0} (prefix : List ℕ) (env names : Values V) (others : Targets) : Type 0 where
  pub reads : (text : List ℕ) → has_slash text ≡ false → look env (meant others prefix text) ≡ look names text
  pub fresh : (text s : List ℕ) → has_slash text ≡ false → look names text ≡ None → look env (prefix ++ (text ++ 47 ∷ s)) ≡ None
  pub free : (text : List ℕ) → look names text ≡ None → look others text ≡ None

-- one name more shows what it is given
abbrev one : {A : Type 0} → List ℕ → A → List ℕ → Option A
one name v text = if bytes_eq name text then Some v else None

-- ---- a node

module _ {V : Type 0} (prefix name : List ℕ) (env names : Values V) (others : Targets) (v : V) (unlike : has_slash name ≡ false) (fits : Fits prefix env names others) where
  node_reads : (text : List ℕ) → has_slash text ≡ false → look (env ++ (prefix ++ name, v) ∷ []) (meant others prefix text) ≡ look (names ++ (name, v) ∷ []) text
  node_reads text smooth =
      look-append env ((prefix ++ name, v) ∷ []) (meant others prefix text)
      ∙ ap (λ o. option_or o (one (prefix ++ name) v (meant others prefix text))) (fits.reads text smooth)
      ∙ go (look names text) refl
      ∙ sym (look-append names ((name, v) ∷ []) text)
    where
      go : (o : Option V) → look names text ≡ o → option_or o (one (prefix ++ name) v (meant others prefix text)) ≡ option_or o (one name v text)
      go (Some w) e = refl
      go None e =
          ap (λ t. one (prefix ++ name) v (unwrap_or t (prefix ++ text))) (fits.free text e)
          ∙ ap (λ b. if b then Some v else None) (prefixed_eq prefix name text)

  node_fresh : (text s : List ℕ) → has_slash text ≡ false → look (names ++ (name, v) ∷ []) text ≡ None
      → look (env ++ (prefix ++ name, v) ∷ []) (prefix ++ (text ++ 47 ∷ s)) ≡ None
  node_fresh text s smooth none =
      let was : look names text ≡ None = (or_none (look names text) (one name v text) (sym (look-append names ((name, v) ∷ []) text) ∙ none)).0 in
      look-append env ((prefix ++ name, v) ∷ []) (prefix ++ (text ++ 47 ∷ s))
      ∙ ap (λ o. option_or o (one (prefix ++ name) v (prefix ++ (text ++ 47 ∷ s)))) (fits.fresh text s smooth was)
      ∙ ap (λ b. if b then Some v else None) (prefixed_eq prefix name (text ++ 47 ∷ s) ∙ other_text name (text ++ 47 ∷ s) (slashless name text s unlike))

  pub node_fits : Fits prefix (env ++ (prefix ++ name, v) ∷ []) (names ++ (name, v) ∷ []) others
  node_fits = record {
    reads = node_reads;
    fresh = node_fresh;
    free = λ text none. fits.free text (or_none (look names text) (one name v text) (sym (look-append names ((name, v) ∷ []) text) ∙ none)).0;
  }

-- ---- a use

module _ {V : Type 0} (prefix name out : List ℕ) (env names new : Values V) (others : Targets) (w : V) (unlike : has_slash name ≡ false)
    (under : AreUnder new (prefixed prefix name)) (shows : look (env ++ new) out ≡ Some w) (was : look names name ≡ None) (fits : Fits prefix env names others) where
  abbrev more : Targets
  more = others ++ (name, out) ∷ []

  apart : (text s r : List ℕ) → prefix ++ text ≡ prefixed prefix name ++ s → text ≡ name ++ 47 ∷ s
  apart text s r e = cancel prefix text (name ++ 47 ∷ s) (e ∙ append_assoc prefix (name ++ 47 ∷ []) s ∙ ap (λ t. prefix ++ t) (append_assoc name (47 ∷ []) s))

  -- a name that shows something already
  old : (text : List ℕ) (v : V) → has_slash text ≡ false → look names text ≡ Some v → look (env ++ new) (meant more prefix text) ≡ Some v
  old text v smooth e =
      let other : bytes_eq name text ≡ false = other_text name text (λ same. not_none v (sym e ∙ ap (look names) (sym same) ∙ was)) in
      let here : look more text ≡ look others text =
      look-append others ((name, out) ∷ []) text ∙ ap (λ b. option_or (look others text) (if b then Some out else None)) other ∙ or_nothing (look others text) in
      ap (λ t. look (env ++ new) (unwrap_or t (prefix ++ text))) here
      ∙ look-append env new (meant others prefix text)
      ∙ ap (λ o. option_or o (look new (meant others prefix text))) (fits.reads text smooth ∙ e)
    where
      or_nothing : {A : Type 0} (o : Option A) → option_or o None ≡ o
      or_nothing None = refl
      or_nothing (Some x) = refl

  -- a name that shows nothing yet
  next : (text : List ℕ) → has_slash text ≡ false → look names text ≡ None → (b : Bool) → bytes_eq name text ≡ b
      → look (env ++ new) (meant more prefix text) ≡ (if b then Some w else None)
  next text smooth e b is =
      ap (λ t. look (env ++ new) (unwrap_or t (prefix ++ text)))
      (look-append others ((name, out) ∷ []) text ∙ ap (λ o. option_or o (one name out text)) (fits.free text e) ∙ ap (λ c. if c then Some out else None) is)
      ∙ go b
    where
      go : (c : Bool) → look (env ++ new) (unwrap_or (if c then Some out else None) (prefix ++ text)) ≡ (if c then Some w else None)
      go true = shows
      go false =
          let before : look env (prefix ++ text) ≡ None = ap (λ t. look env (unwrap_or t (prefix ++ text))) (sym (fits.free text e)) ∙ fits.reads text smooth ∙ e in
          look-append env new (prefix ++ text)
          ∙ ap (λ o. option_or o (look new (prefix ++ text))) before
          ∙ under (prefix ++ text) (λ s h. slashless text name s smooth (apart text s [] h))

  use_reads : (text : List ℕ) → has_slash text ≡ false → look (env ++ new) (meant more prefix text) ≡ look (names ++ (name, w) ∷ []) text
  use_reads text smooth = go (look names text) refl ∙ sym (look-append names ((name, w) ∷ []) text)
    where
      go : (o : Option V) → look names text ≡ o → look (env ++ new) (meant more prefix text) ≡ option_or (look names text) (one name w text)
      go (Some v) e = old text v smooth e ∙ ap (λ o. option_or o (one name w text)) (sym e)
      go None e = next text smooth e (bytes_eq name text) refl ∙ ap (λ o. option_or o (one name w text)) (sym e)

  nothing : (text : List ℕ) → look (names ++ (name, w) ∷ []) text ≡ None → (look names text ≡ None) × (one name w text ≡ None)
  nothing text none = or_none (look names text) (one name w text) (sym (look-append names ((name, w) ∷ []) text) ∙ none)

  differs : (text : List ℕ) → one name w text ≡ None → bytes_eq name text ≡ false
  differs text e = go (bytes_eq name text) refl
    where
      go : (b : Bool) → bytes_eq name text ≡ b → b ≡ false
      go true is = not_none w (ap (λ c. if c then Some w else None) (sym is) ∙ e)
      go false is = refl

  use_fresh : (text s : List ℕ) → has_slash text ≡ false → look (names ++ (name, w) ∷ []) text ≡ None → look (env ++ new) (prefix ++ (text ++ 47 ∷ s)) ≡ None
  use_fresh text s smooth none =
      look-append env new (prefix ++ (text ++ 47 ∷ s))
      ∙ ap (λ o. option_or o (look new (prefix ++ (text ++ 47 ∷ s)))) (fits.fresh text s smooth (nothing text none).0)
      ∙ under (prefix ++ (text ++ 47 ∷ s)) (λ r h. text_other name text (differs text (nothing text none).1) (before_slash name text r s unlike smooth (sym (apart (text ++ 47 ∷ s) r [] h))))

  pub use_fits : Fits prefix (env ++ new) (names ++ (name, w) ∷ []) more
  use_fits = record {
    reads = use_reads;
    fresh = use_fresh;
    free = λ text none.
        look-append others ((name, out) ∷ []) text
        ∙ ap (λ o. option_or o (one name out text)) (fits.free text (nothing text none).0)
        ∙ ap (λ b. if b then Some out else None) (differs text (nothing text none).1);
  }
