-- The cases of a result that may give an answer, and the least record above cases.
use Rattle.std.proofs.Common.{◌≡◌, ℕ, ◌+◌, ◌<◌, List, [], ◌∷◌, ◌++◌, length, get_or, drop, Bool, true, false, cond, sym, ap, ◌∙◌}
use Rattle.pb_semantics.specs.Kind.{KindData, Shape}
use Rattle.pb_semantics.specs.Join.{join, append_cases}
use Rattle.pb_language.specs.Narrow.{cases_with, least_record}
use Rattle.pb_kind.specs.Growing.{joined_onto}
use Rattle.pb_kind.specs.KindView.{cases_view, kind_view, shape_view}
use Rattle.pb_kind.specs.declared.kind.Case.{Case}
use Rattle.pb_kind.specs.declared.kind.Kind.{Kind}
use Rattle.pb_kind.proofs.JoinLemmas.{append_through, cases_view-append}
use Rattle.pb_forms.proofs.Findings.{onto-last}
use Rattle.pb_syntax.proofs.Left.{drop-at}

pub kept-turn : (f : Shape → Bool → KindData → Bool) (kept more cases : List (Case Kind)) (i : ℕ) (c d : Case Kind) → i < length cases → d ≡ get_or cases i d
    → f (shape_view d.shape) d.failed (kind_view d.fields) ≡ true → cases_view (c ∷ []) ≡ cases_view (d ∷ []) → more ≡ kept ++ c ∷ []
    → append_cases (cases_view kept) (cases_with f (cases_view (drop i cases))) ≡ append_cases (cases_view more) (cases_with f (cases_view (drop (i + 1) cases)))
kept-turn f kept more cases i c d lt is holds same pushed =
    let rest = cases_with f (cases_view (drop (i + 1) cases)) in
    let grown : cases_view more ≡ append_cases (cases_view kept) (cases_view (d ∷ [])) =
    ap cases_view pushed ∙ cases_view-append kept (c ∷ []) ∙ ap (append_cases (cases_view kept)) same in
    ap (λ cs. append_cases (cases_view kept) (cases_with f (cases_view cs))) (drop-at cases i d lt is)
    ∙ ap (λ b. append_cases (cases_view kept) (cond b (append_cases (cases_view (d ∷ [])) rest) rest)) holds
    ∙ sym (append_through (cases_view kept) (cases_view (d ∷ [])) rest) ∙ ap (λ cs. append_cases cs rest) (sym grown)

pub left-turn : (f : Shape → Bool → KindData → Bool) (kept cases : List (Case Kind)) (i : ℕ) (d : Case Kind) → i < length cases → d ≡ get_or cases i d
    → f (shape_view d.shape) d.failed (kind_view d.fields) ≡ false
    → append_cases (cases_view kept) (cases_with f (cases_view (drop i cases))) ≡ append_cases (cases_view kept) (cases_with f (cases_view (drop (i + 1) cases)))
left-turn f kept cases i d lt is fails =
    let rest = cases_with f (cases_view (drop (i + 1) cases)) in
    ap (λ cs. append_cases (cases_view kept) (cases_with f (cases_view cs))) (drop-at cases i d lt is)
    ∙ ap (λ b. append_cases (cases_view kept) (cond b (append_cases (cases_view (d ∷ [])) rest) rest)) fails

pub record-turn : (records more : List Kind) (cases : List (Case Kind)) (i : ℕ) (d : Case Kind) (k : Kind) → i < length cases → d ≡ get_or cases i d → kind_view k ≡ kind_view d.fields
    → more ≡ records ++ k ∷ [] → joined_onto records (least_record (cases_view (drop i cases))) ≡ joined_onto more (least_record (cases_view (drop (i + 1) cases)))
record-turn records more cases i d k lt is same pushed =
    let rest = least_record (cases_view (drop (i + 1) cases)) in
    ap (λ cs. joined_onto records (least_record (cases_view cs))) (drop-at cases i d lt is)
    ∙ ap (λ m. joined_onto records (join m rest)) (sym same) ∙ sym (onto-last records k rest) ∙ ap (λ ks. joined_onto ks rest) (sym pushed)
