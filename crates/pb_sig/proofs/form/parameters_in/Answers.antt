use Rattle.std.proofs.Common.{◌≡◌, ◌++◌, ◌∷◌, [], Some, Vec, Global, option_map, map, string_bytes, sym, ap, append_assoc, ◌∙◌}
use Rattle.std.proofs.lemmas.List.{map_push}
use Rattle.pb_value.specs.View.{view, fields_view}
use Rattle.pb_value.proofs.Fields.{Entry}
use Rattle.pb_sig.specs.Signatures.{parameter_in, parameters_in}
use Rattle.pb_sig.specs.Views.{parameter_view}
use Rattle.pb_sig.specs.declared.signature.Parameter.{Parameter}
use Rattle.pb_sig.proofs.Fieldwise.{parameters_in-last, parameters_in-none}
use Rattle.pb_sig.proofs.Refused.{Gives-none}
use Rattle.pb_sig.proofs.form.parameters_in.Goals as goal

pub returns-in_err-parameter_in : goal.returns-in_err-parameter_in
returns-in_err-parameter_in c =
    let inv = c.loop-name.invariant in
    let e : Entry = (c.in-Some.name.now, c.in-Some.value.now) in
    let all = inv.1 ∙ ap (λ es. inv.0 ++ es) c.in-Some.ensures.steps in
    Gives-none (λ (ps : Vec Parameter Global). map parameter_view ps.items) _ _ (parameter_in c.as_str.result.now (view e.1)) (parameters_in (fields_view c.args.fields.now.entries)) c.from_residual-in_err-parameter_in.ensures.1 c.in_err-parameter_in.ensures
    (λ none. ap (λ es. parameters_in (fields_view es)) all ∙ parameters_in-none inv.0 e c.next.new.self (ap (λ n. parameter_in n (view e.1)) (sym c.as_str.ensures.value) ∙ none))

pub loop-name-preserved : goal.loop-name-preserved
loop-name-preserved c =
    let inv = c.loop-name.invariant in
    let done = inv.0 in
    let e : Entry = (c.in-Some.name.now, c.in-Some.value.now) in
    let left = c.next.new.self in
    let all = inv.1 ∙ ap (λ es. done ++ es) c.in-Some.ensures.steps in
    let p = c.in_ok-parameter_in.field-0 in
    let given : parameter_in (string_bytes e.0) (view e.1) ≡ Some (parameter_view p) = ap (λ n. parameter_in n (view e.1)) (sym c.as_str.ensures.value) ∙ c.in_ok-parameter_in.ensures in (
      done ++ e ∷ [],
      all ∙ sym (append_assoc done (e ∷ []) left),
      parameters_in-last done e (parameter_view p) given ∙ ap (option_map (λ ps. ps ++ parameter_view p ∷ [])) inv.2
          ∙ ap Some (sym (ap (map parameter_view) c.in_ok-push.ensures.items ∙ map_push parameter_view c.loop-name.parameters.items p)),
    )
