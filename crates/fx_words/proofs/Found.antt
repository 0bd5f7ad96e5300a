-- What clap answers, and the order that the words have.
use Rattle.std.proofs.Common.{◌≡◌, ◌⊎◌, inl, inr, sym, ap, subst, refl, ◌∙◌, List, [], ◌∷◌, None, Result, Err}
use Rattle.std.specs.Prelude.{IsErrOf, MatchBool}
use Rattle.std.proofs.lemmas.Result.{IfOk-weaker}
use Rattle.clap.specs.Kinds.{Kinds, IsAmong}
use Rattle.clap.specs.Walk.{Row}
use Rattle.clap.specs.declared.error.kind.ErrorKind.{ErrorKind}
use Rattle.clap.specs.declared.error.kind.ErrorKind.TheVariants as kind
use Rattle.fx_words.specs.Ordered.{Ordered}
use Rattle.fx_words.specs.Order.{order_in, order_by}
use Rattle.fx_words.specs.Seen.{Reads, is_memory_kind}
use Rattle.fx_words.specs.declared.words.WordFault.{WordFault}
use Rattle.fx_words.specs.declared.words.WordFault.TheVariants.{Usage, Memory}

order_found : (faults : Kinds) (rows found : List Row) → faults ≡ [] → found ≡ rows → order_by faults rows ≡ order_in found
order_found faults rows found none same = ap (λ (k : Kinds). order_by k rows) none ∙ ap order_in (sym same)

-- where there is no fault, the order is that of the rows
pub reads_found : (r : Result Ordered WordFault) (faults : Kinds) (rows found : List Row)
    → faults ≡ [] → found ≡ rows → Reads r (order_in found) → Reads r (order_by faults rows)
reads_found r faults rows found none same reads =
    (IfOk-weaker r _ _ (λ o h. order_found faults rows found none same ∙ h) reads.0, λ usage. order_found faults rows found none same ∙ reads.1 usage)

-- a fault that isn't want of memory is one of clap's, and then there is no order
pub none_refused : (k : ErrorKind) (faults : Kinds) (rows : List Row) (fault : WordFault)
    → (k ≡ kind.OutOfMemory) ⊎ IsAmong k faults → MatchBool (is_memory_kind k) (fault ≡ Memory) (fault ≡ Usage)
    → IsErrOf {T = Ordered} (Err fault) Usage
    → order_by faults rows ≡ None
none_refused k (x ∷ xs) rows fault has is usage = refl
none_refused k [] rows fault (inr among) is usage = absurd among
none_refused k [] rows fault (inl memory) is usage =
    let P : ErrorKind → Type 0 = λ j. MatchBool (is_memory_kind j) (fault ≡ Memory) (fault ≡ Usage) in
    let out : fault ≡ Memory = subst P memory is in
    cc
