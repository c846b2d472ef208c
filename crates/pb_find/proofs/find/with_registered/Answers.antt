use Rattle.std.proofs.Common.{Option, String, Global, string_bytes, option_map, ap, subst, sym}
use Rattle.std.specs.declared.sync.Arc.{Arc}
use Rattle.pb_language.specs.Cases.{Sets}
use Rattle.pb_kind.specs.KindView.{kind_view, slots_view}
use Rattle.pb_kind.specs.declared.kind.Kind.{Kind}
use Rattle.pb_find.specs.Written.{Written}
use Rattle.pb_find.proofs.Writes.{no_kind, no_name, written_nothing}
use Rattle.pb_find.proofs.find.with_registered.Goals as goal

pub returns-in-None : goal.returns-in-None
returns-in-None c =
    let names = option_map (λ (n : Arc (String Global) Global). string_bytes n.value) c.args.register.now in
    let view = slots_view c.args.view.now.entries in
    subst (λ (r : Sets). Written r view c.args.before c.args.before)
    (sym (no_name names (option_map kind_view c.args.kind.now) (ap (λ (o : Option (Arc (String Global) Global)). option_map (λ n. string_bytes n.value) o) c.in-None.is)))
    (written_nothing view c.args.before c.requires.next)

pub returns-in-None-kind : goal.returns-in-None-kind
returns-in-None-kind c =
    let names = option_map (λ (n : Arc (String Global) Global). string_bytes n.value) c.args.register.now in
    let view = slots_view c.args.view.now.entries in
    subst (λ (r : Sets). Written r view c.args.before c.args.before)
    (sym (no_kind names (option_map kind_view c.args.kind.now) (ap (λ (o : Option Kind). option_map kind_view o) c.in-None-kind.is)))
    (written_nothing view c.args.before c.requires.next)
