use Rattle.std.proofs.Common.{◌≡◌, ℕ, ◌≤◌, ◌<◌, List, map, true, false, nat_lt, sym, ap, ◌∙◌, subst}
use Rattle.pb_language.specs.Give as language
use Rattle.pb_language.specs.Give.{all_hold, last_attempts, retries_of}
use Rattle.pb_start.specs.Prepared.{trees_of}
use Rattle.pb_task.specs.Tasks.{attempts_view}
use Rattle.pb_finish.specs.Endings.{IsOutcome, final_view}
use Rattle.std.proofs.Common.{option_map}
use Rattle.pb_finish.proofs.Comes.{came-held, came-again, came-last, is-few, is-not-few, retries-expanded}
use Rattle.pb_finish.proofs.ending.end_task.Goals as goal

pub returns-then-until_holds-clause-ends : goal.returns-then-until_holds-clause-ends
returns-then-until_holds-clause-ends g c = λ t d es h.
    let same : map final_view c.in_ok-all.all.items ≡ es = c.in_ok-all.ensures t d es h in
    let held : all_hold es ≡ true = ap all_hold (sym same) ∙ ap (λ ys. all_hold (map final_view ys)) (sym c.deref.ensures.value) ∙ sym c.until_holds.ensures ∙ c.if-until_holds.true in
    let out : IsOutcome c.in_ok-outcome_of.field-0 t es = subst (λ (ys : List language.Ended). IsOutcome c.in_ok-outcome_of.field-0 t ys) (ap (map final_view) c.deref-then-until_holds.ensures.value ∙ same) (c.in_ok-outcome_of.ensures t d) in
    came-held c.in_ok-outcome_of.field-0 t c.args.tried es held out

pub returns-clause-ends : goal.returns-clause-ends
returns-clause-ends g c = λ t d es h.
    let same : map final_view c.in_ok-all.all.items ≡ es = c.in_ok-all.ensures t d es h in
    let held : all_hold es ≡ false = ap all_hold (sym same) ∙ ap (λ ys. all_hold (map final_view ys)) (sym c.deref.ensures.value) ∙ sym c.until_holds.ensures ∙ c.if-until_holds.false in
    let o = c.in_ok-outcome_of-2.field-0 in
    let out : IsOutcome o t (last_attempts es) = subst (λ (ys : List language.Ended). IsOutcome o t ys) (ap (map final_view) c.deref-2.ensures.value ∙ c.in_ok-last.ensures ∙ ap last_attempts same) (c.in_ok-outcome_of-2.ensures t d) in
    let most : c.retries_of.result ≡ retries_of t.attempts = c.retries_of.ensures ∙ sym (ap retries_of d.attempts ∙ retries-expanded (trees_of c.args.prepared.now) (option_map attempts_view c.args.prepared.now.attempts)) in
    let few : nat_lt c.args.tried (retries_of t.attempts) ≡ false = is-not-few c.args.tried (retries_of t.attempts) (subst (λ (m : ℕ). m ≤ c.args.tried) most c.if-tried-retries_of.false) in
    came-last o t c.args.tried es held few out

pub returns-then-tried-retries_of-clause-ends : goal.returns-then-tried-retries_of-clause-ends
returns-then-tried-retries_of-clause-ends g c = λ t d es h.
    let same : map final_view c.in_ok-all.all.items ≡ es = c.in_ok-all.ensures t d es h in
    let held : all_hold es ≡ false = ap all_hold (sym same) ∙ ap (λ ys. all_hold (map final_view ys)) (sym c.deref.ensures.value) ∙ sym c.until_holds.ensures ∙ c.if-until_holds.false in
    let most : c.retries_of.result ≡ retries_of t.attempts = c.retries_of.ensures ∙ sym (ap retries_of d.attempts ∙ retries-expanded (trees_of c.args.prepared.now) (option_map attempts_view c.args.prepared.now.attempts)) in
    let few : nat_lt c.args.tried (retries_of t.attempts) ≡ true = is-few c.args.tried (retries_of t.attempts) (subst (λ (m : ℕ). c.args.tried < m) most c.if-tried-retries_of.true) in
    came-again t c.args.tried es held few
