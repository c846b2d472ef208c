-- The cases of a result, changed or left out one at a time, and records of which a field is changed.
use Rattle.std.proofs.Common.{◌≡◌, ℕ, ◌+◌, ◌<◌, List, [], ◌∷◌, ◌++◌, length, get_or, drop, Bool, true, false, cond, string_bytes, refl, sym, ap, ◌∙◌}
use Rattle.pb_semantics.specs.Kind.{KindData, Slots, Cases, no_cases, one, recs, anything, nowhere, spot, slot_at}
use Rattle.pb_semantics.specs.Join.{append_cases}
use Rattle.pb_language.specs.Expression.{Name}
use Rattle.pb_language.specs.Narrow.{can_have, cases_changed, cases_stepped, changed_spot, there_spot, with_change, with_step}
use Rattle.pb_language.specs.Scope.{with_slot, with_spot}
use Rattle.pb_kind.specs.KindView.{cases_view, kind_view, shape_view}
use Rattle.pb_kind.specs.declared.kind.Case.{Case}
use Rattle.pb_kind.specs.declared.kind.Kind.{Kind}
use Rattle.pb_kind.proofs.JoinLemmas.{append_through, cases_view-append}
use Rattle.pb_syntax.proofs.Left.{drop-at}

-- the case with that record
abbrev pub case-of : Case Kind → KindData → Cases
case-of d k = one (string_bytes d.action.value) (shape_view d.shape) d.failed k no_cases

one-more : (all more : List (Case Kind)) (c d : Case Kind) (j k : KindData) (rest : Cases) → cases_view (c ∷ []) ≡ case-of d j → j ≡ k → more ≡ all ++ c ∷ []
    → append_cases (cases_view all) (append_cases (case-of d k) rest) ≡ append_cases (cases_view more) rest
one-more all more c d j k rest made same pushed =
    let grown : cases_view more ≡ append_cases (cases_view all) (case-of d k) =
    ap cases_view pushed ∙ cases_view-append all (c ∷ []) ∙ ap (append_cases (cases_view all)) (made ∙ ap (case-of d) same) in
    sym (append_through (cases_view all) (case-of d k) rest) ∙ ap (λ cs. append_cases cs rest) (sym grown)

pub changed-turn : (f : KindData → KindData) (all more cases : List (Case Kind)) (i : ℕ) (c d : Case Kind) (j : KindData) → i < length cases → d ≡ get_or cases i d
    → cases_view (c ∷ []) ≡ case-of d j → j ≡ f (kind_view d.fields) → more ≡ all ++ c ∷ []
    → append_cases (cases_view all) (cases_changed f (cases_view (drop i cases))) ≡ append_cases (cases_view more) (cases_changed f (cases_view (drop (i + 1) cases)))
changed-turn f all more cases i c d j lt is made same pushed =
    ap (λ cs. append_cases (cases_view all) (cases_changed f (cases_view cs))) (drop-at cases i d lt is)
    ∙ one-more all more c d j (f (kind_view d.fields)) (cases_changed f (cases_view (drop (i + 1) cases))) made same pushed

pub stepped-turn : (p : KindData → Bool) (f : KindData → KindData) (all more cases : List (Case Kind)) (i : ℕ) (c d : Case Kind) (j : KindData) → i < length cases → d ≡ get_or cases i d
    → p (kind_view d.fields) ≡ true → cases_view (c ∷ []) ≡ case-of d j → j ≡ f (kind_view d.fields) → more ≡ all ++ c ∷ []
    → append_cases (cases_view all) (cases_stepped p f (cases_view (drop i cases))) ≡ append_cases (cases_view more) (cases_stepped p f (cases_view (drop (i + 1) cases)))
stepped-turn p f all more cases i c d j lt is can made same pushed =
    let rest = cases_stepped p f (cases_view (drop (i + 1) cases)) in
    ap (λ cs. append_cases (cases_view all) (cases_stepped p f (cases_view cs))) (drop-at cases i d lt is)
    ∙ ap (λ b. append_cases (cases_view all) (cond b (append_cases (case-of d (f (kind_view d.fields))) rest) rest)) can
    ∙ one-more all more c d j (f (kind_view d.fields)) rest made same pushed

pub stepped-out : (p : KindData → Bool) (f : KindData → KindData) (all cases : List (Case Kind)) (i : ℕ) (d : Case Kind) → i < length cases → d ≡ get_or cases i d
    → p (kind_view d.fields) ≡ false
    → append_cases (cases_view all) (cases_stepped p f (cases_view (drop i cases))) ≡ append_cases (cases_view all) (cases_stepped p f (cases_view (drop (i + 1) cases)))
stepped-out p f all cases i d lt is cannot =
    let rest = cases_stepped p f (cases_view (drop (i + 1) cases)) in
    ap (λ cs. append_cases (cases_view all) (cases_stepped p f (cases_view cs))) (drop-at cases i d lt is)
    ∙ ap (λ b. append_cases (cases_view all) (cond b (append_cases (case-of d (f (kind_view d.fields))) rest) rest)) cannot

-- a record of which a field is changed, one that lacks the field, and one in which it is there
pub changed-record : (n : Name) (f : KindData → KindData) (ss : Slots) (a : Bool) (j k : KindData) → slot_at n ss ≡ spot a j → k ≡ f j → recs (with_slot n a k ss) ≡ with_change n f (recs ss)
changed-record n f ss a j k at same = ap (λ m. recs (with_slot n a m ss)) same ∙ ap (λ s. recs (with_spot n (changed_spot f s) ss)) (sym at)

pub same-record : (n : Name) (f : KindData → KindData) (ss : Slots) → slot_at n ss ≡ nowhere → recs ss ≡ with_change n f (recs ss)
same-record n f ss at = ap (λ s. recs (with_spot n (changed_spot f s) ss)) (sym at)

pub stepped-record : (n : Name) (f : KindData → KindData) (ss : Slots) (k : KindData) → spot true k ≡ there_spot f (slot_at n ss) → recs (with_slot n true k ss) ≡ with_step n f (recs ss)
stepped-record n f ss k there = ap (λ s. recs (with_spot n s ss)) there

-- what may be any value may have all steps
pub any-below : (n : Name) (ns : List Name) → can_have (n ∷ ns) anything ≡ can_have ns anything
any-below n [] = refl
any-below n (m ∷ ns) = refl
