-- What is found of a host is found of those that look like it.
use Rattle.std.proofs.Common.{◌≡◌, List, Option, Some, None, false, refl, sym, ap, subst, ◌∙◌}
use Rattle.pb_semantics.specs.Kind.{Slots}
use Rattle.pb_language.specs.Expression.{Name}
use Rattle.pb_language.specs.Judgement.{live}
use Rattle.pb_language.specs.Kinds.{known_slots}
use Rattle.pb_language.specs.Program.{Inventory, Program}
use Rattle.pb_language.specs.Scope.{Later, View, view_of}
use Rattle.pb_language.specs.Tables.{PlayWalk, plays_below, with_plays}
use Rattle.pb_language.specs.Verdict.{plays_offence}
use Rattle.pb_language.specs.Wells.{WellViews}
use Rattle.pb_language.specs.World.{HostVariables}
use Rattle.pb_language.proofs.WellKinds.{well_known_slots}
use Rattle.pb_walks.specs.Agree.{AllPlaysAgree, HostsAgree, SlotsAgree}
use Rattle.pb_walks.specs.Alone.{plays_read_others}
use Rattle.pb_walks.specs.Notified.{PlaysNameHandlers}
use Rattle.pb_walks.proofs.Agreeing.{laters_own, slots_own, slots_through, views_own}
use Rattle.pb_walks.proofs.NamedWalks.{agreeing_plays}
use Rattle.pb_walks.proofs.SameBudget.{plays_same as calls_same}
use Rattle.pb_walks.proofs.SameOffence.{plays_same as offence_same}
use Rattle.pb_walks.proofs.SameWalks.{plays_agree}
use Rattle.pb_walks.proofs.SameWrites.{plays_same as settled_same, plays_written}
use Rattle.pb_alike.specs.Alike.{AllPlaysAlike, LookAlike, refused_on, ways_of}
use Rattle.pb_alike.specs.Laws.{AlikeCalls, AlikeNameHandlers, AlikeOffence, AlikeSettled, AlikeWrites, WalkedAlike}
use Rattle.pb_alike.specs.Named.{plays_read_name}
use Rattle.pb_find.specs.Finds.{offence_of}
use Rattle.pb_find.specs.declared.find.FaultAt.{FaultAt}
use Rattle.pb_kind.specs.KindView.{slots_view}
use Rattle.pb_tables.specs.Found.{HostFinds, host_walk}
use Rattle.pb_tables.specs.declared.host.HostFound.{HostFound}

-- the laws of hosts that look alike
pub record Laws : Type 0 where
  pub walked : WalkedAlike
  pub calls : AlikeCalls
  pub offence : AlikeOffence
  pub writes : AlikeWrites
  pub settled : AlikeSettled
  pub handlers : AlikeNameHandlers

moved : (h g : Name) (f : Option FaultAt) → offence_of g f ≡ refused_on g (offence_of h f)
moved h g None = refl
moved h g (Some f) = refl

module _ (laws : Laws) (i : Inventory) (ps : Program) (vs : List View) (ls : List (List Later)) (well : WellViews vs) (x y : HostVariables) (alike : LookAlike i ps x y) (others : plays_read_others ps ≡ false) (name : plays_read_name ps ≡ false)
    (seen : view_of x.name vs ≡ view_of y.name vs) (f : HostFound) (found : HostFinds i ps vs ls x f) where
  abbrev here : List PlayWalk
  here = found.walk.plays

  abbrev one : List PlayWalk
  one = ways_of i ps vs ls x

  abbrev other : List PlayWalk
  other = ways_of i ps vs ls y

  abbrev view : Slots
  view = view_of x.name vs

  agrees : AllPlaysAgree here one
  agrees = found.agrees.plays

  walked : AllPlaysAlike one other
  walked = laws.walked i ps vs ls x y others name alike

  own : HostsAgree (host_walk i ps vs ls y) (host_walk i ps vs ls y)
  own =
      let w = well_known_slots y.variables in
      record { host = refl; plays = plays_agree i vs vs (views_own vs well) ps y.name (live (known_slots y.variables)) (live (known_slots y.variables)) ls ls (laters_own ls) w w (slots_own (known_slots y.variables) w) }

  fault : PlaysNameHandlers other → offence_of y.name f.find.fault ≡ plays_offence y.name other
  fault h =
      let named = agreeing_plays here one agrees (laws.handlers one other walked h) in
      moved x.name y.name f.find.fault ∙ ap (refused_on y.name) (found.fault named ∙ offence_same x.name here one agrees) ∙ sym (laws.offence x.name y.name one other walked)

  next : SlotsAgree (slots_view f.find.next.entries) (with_plays other (view_of y.name vs))
  next =
      let w = well x.name in
      let written = plays_written here one view view agrees (slots_own view w, w, w) in
      let so : SlotsAgree (slots_view f.find.next.entries) (with_plays one view) = slots_through (slots_view f.find.next.entries) (with_plays here view) (with_plays one view) found.well written.1 written.2 found.next written.0 in
      subst (λ ss. SlotsAgree (slots_view f.find.next.entries) ss) (laws.writes one other view walked ∙ ap (with_plays other) seen) so

  settled : f.find.is_settled ≡ plays_below other (view_of y.name vs)
  settled =
      found.settled ∙ settled_same here one view view agrees (slots_own view (well x.name)) ∙ laws.settled one other view walked ∙ ap (plays_below other) seen

  pub found_alike : HostFinds i ps vs ls y f
  found_alike = record {
    walk = host_walk i ps vs ls y;
    agrees = own;
    fault = fault;
    next = next;
    well = found.well;
    settled = settled;
    same = λ e. found.same e ∙ seen;
    calls = found.calls ∙ calls_same here one agrees ∙ laws.calls one other walked;
  }
