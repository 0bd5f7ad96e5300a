-- How the first refusal of a list is found from its parts.
use Rattle.std.proofs.Common.{◌≡◌, ◌≤◌, ◌<◌, ℕ, ◌+◌, List, [], ◌∷◌, ◌++◌, length, take, drop, get_or, Result, Some, None, refl, sym, ap, ◌∙◌, arith}
use Rattle.std.proofs.lemmas.Bool.{le-ltb, lt-ltb}
use Rattle.std.proofs.lemmas.List.{append_assoc, append-nil, take-append-drop, drop_more, take_more, get_or-take, get_or_default, length-take}
use Rattle.std.proofs.lemmas.Result.{IfErr-weaker}
use Rattle.std.specs.Prelude.{IfErr, AllPairs, Contains}
use Rattle.std.specs.Option.{option_or}
use Rattle.fx_image.specs.Stored.{Stored}
use Rattle.fx_outside.specs.Outside.{Files}
use Rattle.fx_pam.specs.Reading.{pam_fault}
use Rattle.fx_pam.proofs.FileImage.{gap_none}
use Rattle.fx_seq.specs.declared.wanted.Wanted.{Wanted}
use Rattle.fx_seq.specs.declared.fault.SeqFault.{SeqFault}
use Rattle.fx_seq.specs.declared.fault.SeqFault.TheVariants.{Fetch, Frame, TooLarge, Memory}
use Rattle.fx_seq.specs.Filling.{refusal, refusal_of, refusal_read, size_under, first_refused, IsApart, IsTold, IsFetchOf, IsFirstFetch, IsQuiet, IsQuietAt}
use Rattle.fx_seq.specs.Frames.{IsPicture, image_size}

-- what is told of the bytes is told of the name that they stand under
pub told_under : (files : Files) (side : ℕ) (w : Wanted) (bytes : List ℕ) (r : Result Stored SeqFault) → files w.name ≡ Some bytes → IfErr r (λ e. (limit sum : ℕ) → IsTold (refusal_read limit w sum (pam_fault bytes side)) e) → IfErr r (λ e. (limit sum : ℕ) → IsTold (refusal files side limit sum w) e)
told_under files side w bytes r under told = IfErr-weaker r _ _ (λ e h limit sum. rw under (h limit (sum + _))) told

-- the size of a picture is that of its file
pub picture_size : (files : Files) (side : ℕ) (name : List ℕ) (image : Stored) → IsPicture files side name image → size_under files name ≡ image_size image
picture_size files side name image p =
    let numbers = p.reads.numbers in
    rw (p.under, p.reads.reads, p.reads.rect, p.reads.depth, gap_none numbers.width, gap_none numbers.height) refl

-- a picture is refused by the sum alone
pub picture_refusal : (files : Files) (side limit sum : ℕ) (w : Wanted) (image : Stored) → IsPicture files side w.name image → refusal files side limit sum w ≡ refusal_read limit w (sum + image_size image) None
picture_refusal files side limit sum w image p =
    ap (λ n. refusal_of side limit w (sum + n) (files w.name)) (picture_size files side w.name image p)
    ∙ ap (refusal_of side limit w (sum + image_size image)) p.under
    ∙ ap (refusal_read limit w (sum + image_size image)) p.reads.no_fault

-- the frames of a list are not refused, and have so many bytes: what is refused of a longer list is refused of what follows them
abbrev pub Accepts : Files → ℕ → ℕ → ℕ → List Wanted → ℕ → Type 0
Accepts files side limit start ws sum = (rest : List Wanted) → first_refused files side limit start (ws ++ rest) ≡ first_refused files side limit sum rest

-- one more
pub accepts_more : (files : Files) (side limit start : ℕ) (ws : List Wanted) (sum : ℕ) (w : Wanted) (image : Stored) → Accepts files side limit start ws sum → IsPicture files side w.name image → sum + image_size image ≤ limit → Accepts files side limit start (ws ++ w ∷ []) (sum + image_size image)
accepts_more files side limit start ws sum w image acc p fits = λ rest.
    let none : refusal files side limit sum w ≡ None = picture_refusal files side limit sum w image p ∙ rw (le-ltb limit (sum + image_size image) fits) refl in
    ap (first_refused files side limit start) (append_assoc ws (w ∷ []) rest)
    ∙ acc (w ∷ rest)
    ∙ rw (none, picture_size files side w.name image p) refl

pub accepts_all : (files : Files) (side limit start : ℕ) (ws : List Wanted) (sum : ℕ) → Accepts files side limit start ws sum → first_refused files side limit start ws ≡ None
accepts_all files side limit start ws sum acc = ap (first_refused files side limit start) (sym (append-nil ws)) ∙ acc []

-- the first frame that is refused
pub first_at : (files : Files) (side limit start : ℕ) (ws before after : List Wanted) (sum : ℕ) (w : Wanted) (e : SeqFault) → Accepts files side limit start before sum → ws ≡ before ++ w ∷ after → refusal files side limit sum w ≡ Some e → first_refused files side limit start ws ≡ Some e
first_at files side limit start ws before after sum w e acc split told =
    ap (first_refused files side limit start) split ∙ acc (w ∷ after) ∙ ap (λ o. option_or o (first_refused files side limit (sum + size_under files w.name) after)) told

-- what is told of the frame that comes next is told of the list
pub told_first : (files : Files) (side limit start : ℕ) (ws before after : List Wanted) (sum : ℕ) (w : Wanted) (e : SeqFault) → Accepts files side limit start before sum → ws ≡ before ++ w ∷ after → IsTold (refusal files side limit sum w) e → IsTold (first_refused files side limit start ws) e
told_first files side limit start ws before after sum w (Fetch node frame name) acc split told = tt
told_first files side limit start ws before after sum w (Frame node frame fault) acc split told = first_at files side limit start ws before after sum w (Frame node frame fault) acc split told
told_first files side limit start ws before after sum w (TooLarge node frame all) acc split told = first_at files side limit start ws before after sum w (TooLarge node frame all) acc split told
told_first files side limit start ws before after sum w Memory acc split told = tt

-- files that are the same under a frame's name refuse it alike
pub refusal_same : (files now : Files) (side limit sum : ℕ) (w : Wanted) → now w.name ≡ files w.name → refusal now side limit sum w ≡ refusal files side limit sum w
refusal_same files now side limit sum w same = rw same refl

-- a picture with which the sum is above the limit
pub too_large : (files : Files) (side limit sum : ℕ) (w : Wanted) (image : Stored) → IsPicture files side w.name image → limit < sum + image_size image → refusal files side limit sum w ≡ Some (TooLarge w.node w.frame (sum + image_size image))
too_large files side limit sum w image p high = picture_refusal files side limit sum w image p ∙ rw (lt-ltb limit (sum + image_size image) high) refl

-- a fetch that failed is the first that did
pub fetch_comes : (files : Files) (side limit start : ℕ) (ws before after : List Wanted) (sum a b : ℕ) (last : List ℕ) (w : Wanted) (e : SeqFault) → Accepts files side limit start before sum → ws ≡ before ++ w ∷ after → IsFetchOf a b last w e → IsFirstFetch files side limit start ws e
fetch_comes files side limit start ws before after sum a b last w (Fetch node frame name) acc split of =
    record { before = before; after = after; split = split ∙ ap (λ v. before ++ v ∷ after) of.2; accepted = accepts_all files side limit start before sum acc }
fetch_comes files side limit start ws before after sum a b last w (Frame node frame fault) acc split of = tt
fetch_comes files side limit start ws before after sum a b last w (TooLarge node frame all) acc split of = tt
fetch_comes files side limit start ws before after sum a b last w Memory acc split of = tt

-- the list as the items before one, that one, and the others
pub split_at : (ws : List Wanted) (i : ℕ) (w : Wanted) → i < length ws → w ≡ get_or ws i w → ws ≡ take i ws ++ w ∷ drop (i + 1) ws
split_at ws i w low is = sym (take-append-drop i ws) ∙ ap (λ rest. take i ws ++ rest) (drop_more ws i w low ∙ ap (λ v. v ∷ drop (i + 1) ws) (sym is))

pub read_more : (ws : List Wanted) (i : ℕ) (w : Wanted) → i < length ws → w ≡ get_or ws i w → take (i + 1) ws ≡ take i ws ++ w ∷ []
read_more ws i w low is = take_more ws i w low ∙ ap (λ v. take i ws ++ v ∷ []) (sym is)

-- the wanted frames before one stand under other places
pub apart_before : (ws : List Wanted) (i : ℕ) (w : Wanted) → AllPairs IsApart ws → i < length ws → w ≡ get_or ws i w → (v : Wanted) → Contains (take i ws) v → IsApart v w
apart_before ws i w apart low is v inside =
    let k = inside.0 in
    let below : k < i = omega (arith, inside.1, length-take i ws) in
    let here : get_or ws k v ≡ v = sym (get_or-take i ws k v below) ∙ inside.2 in
    let there : get_or ws i v ≡ w = get_or_default ws i v w low ∙ sym is in
    let pair : IsApart (get_or ws k v) (get_or ws i v) = apart k i v below low in
    rw (here, there) at pair

-- one call after the other failed at no fetch
pub quiet_more : {a b c : ℕ} {x y z : List ℕ} → IsQuiet a b x y → IsQuiet b c y z → IsQuiet a c x z
quiet_more p q = record { count = q.count ∙ p.count; last_one = q.last_one ∙ p.last_one }

pub quiet_at_more : (a b c : ℕ) (x y z : List ℕ) (e : SeqFault) → IsQuiet a b x y → IsQuietAt b c y z e → IsQuietAt a c x z e
quiet_at_more a b c x y z (Fetch node frame name) p q = tt
quiet_at_more a b c x y z (Frame node frame fault) p q = quiet_more p q
quiet_at_more a b c x y z (TooLarge node frame sum) p q = quiet_more p q
quiet_at_more a b c x y z Memory p q = tt
