-- A round, host by host, and the verdict of its last.
use Rattle.std.proofs.Common.{◌≡◌, ◌+◌, List, [], ◌∷◌, ◌++◌, length, true, ◌&&◌, option_map, sym, ap, ap₂, subst, ◌∙◌, BTreeMap, String, Global}
use Rattle.std.specs.declared.sync.Arc.{Arc}
use Rattle.std.proofs.lemmas.List.{length-map, map-append}
use Rattle.pb_semantics.specs.Data.{no_fields}
use Rattle.pb_semantics.specs.Kind.{Slots}
use Rattle.pb_semantics.proofs.Bools.{and-left, and-right}
use Rattle.pb_language.specs.Program.{Inventory, Program}
use Rattle.pb_language.specs.Scope.{Later, View, view_of}
use Rattle.pb_language.specs.Tables.{HostWalk, all_walked, are_settled, hosts_walked, next_views, plays_below, views_after, with_plays}
use Rattle.pb_language.specs.Verdict.{earlier, first_offence, flow_verdict, found_laters, offence_verdict, plays_offence, settled_verdict}
use Rattle.pb_language.specs.Wells.{WellViews}
use Rattle.pb_language.specs.World.{HostVariables}
use Rattle.pb_kind.specs.KindView.{slots_view}
use Rattle.pb_kind.specs.declared.kind.Kind.{Kind}
use Rattle.pb_kind.specs.declared.kind.Slot.{Slot}
use Rattle.pb_walks.specs.Agree.{AllHostsAgree, LatersAgree, SlotsAgree, ViewsAgree}
use Rattle.pb_walks.specs.Notified.{HostsNameHandlers}
use Rattle.pb_walks.proofs.NamedWalks.{agreeing_name_handlers}
use Rattle.pb_find.specs.Finds.{offence_of}
use Rattle.pb_inventory.specs.Inventory.{inventory_view}
use Rattle.pb_inventory.specs.declared.inventory.Inventory as inventory
use Rattle.pb_hosts.specs.Shown.{views_view}
use Rattle.pb_hosts.specs.Tables.{host_names, slots_of_each, views_from}
use Rattle.pb_hosts.specs.declared.views.Views.{Views}
use Rattle.pb_hosts.proofs.Places.{apart_hosts}
use Rattle.pb_tables.specs.Found.{HostFinds, host_walk}
use Rattle.pb_tables.specs.Outcomes.{AlwaysNamesHandlers, host_offence}
use Rattle.pb_tables.specs.Rounds.{AreFound, EachNext, IsRound, seen_of}
use Rattle.pb_tables.specs.declared.host.HostFound.{HostFound}
use Rattle.pb_tables.specs.declared.round.Round.{Round}
use Rattle.pb_tables.specs.declared.round.SoFar.{SoFar}
use Rattle.pb_tables.proofs.Chained.{round_verdict}
use Rattle.pb_tables.proofs.Joined.{agreeing_joined, budget_joined, named_apart, offence_joined, settled_joined, walked_joined}
use Rattle.pb_tables.proofs.Viewed.{next_agree, next_joined, seen_all}

abbrev pub Table : Type 0
Table = Arc (BTreeMap (String Global) (Slot Kind)) Global

module _ (i : Inventory) (ps : Program) (vs : List View) (ls : List (List Later)) where
  -- no host yet
  pub none_found : (s : SoFar) → option_map host_offence s.fault ≡ first_offence [] → s.is_settled ≡ true → s.calls ≡ 0 → s.next.items ≡ [] → AreFound i ps vs ls [] s
  none_found s f q n e = record {
    walks = [];
    agrees = tt;
    fault = λ h. f;
    settled = q;
    same = λ h. ap slots_of_each e;
    calls = n;
    next = subst (λ (ms : List Table). EachNext vs [] (slots_of_each ms) []) (sym e) tt;
  }

  -- one host more
  module _ (xs : List HostVariables) (x : HostVariables) (f : HostFound) (s t : SoFar) (before : AreFound i ps vs ls xs s) (here : HostFinds i ps vs ls x f) where
    module _ (fault : option_map host_offence t.fault ≡ earlier (option_map host_offence s.fault) (offence_of x.name f.find.fault)) (settled : t.is_settled ≡ s.is_settled && f.find.is_settled)
        (same : t.is_same ≡ s.is_same && f.find.is_same) (calls : t.calls ≡ s.calls + f.calls) (next : slots_of_each t.next.items ≡ slots_of_each s.next.items ++ slots_view f.find.next.entries ∷ []) where
      abbrev w : HostWalk
      w = here.walk

      named : x.name ≡ w.host
      named = sym here.agrees.host

      fault_more : HostsNameHandlers (before.walks ++ w ∷ []) → option_map host_offence t.fault ≡ first_offence (before.walks ++ w ∷ [])
      fault_more h =
          let both = named_apart before.walks w h in
          fault ∙ ap (λ o. earlier o (offence_of x.name f.find.fault)) (before.fault both.0)
          ∙ ap (earlier (first_offence before.walks)) (here.fault both.1 ∙ ap (λ n. plays_offence n w.plays) named)
          ∙ sym (offence_joined before.walks w)

      settled_more : t.is_settled ≡ are_settled (before.walks ++ w ∷ []) vs
      settled_more =
          settled ∙ ap (λ q. q && f.find.is_settled) before.settled ∙ ap (λ q. are_settled before.walks vs && q) (here.settled ∙ ap (λ n. plays_below w.plays (view_of n vs)) named)
          ∙ sym (settled_joined before.walks w vs)

      same_more : t.is_same ≡ true → slots_of_each t.next.items ≡ seen_of vs (xs ++ x ∷ [])
      same_more e =
          let both : s.is_same && f.find.is_same ≡ true = sym same ∙ e in
          next
          ∙ ap₂ (λ (us : List Slots) (u : Slots). us ++ u ∷ []) (before.same (and-left s.is_same f.find.is_same both)) (here.same (and-right s.is_same f.find.is_same both))
          ∙ sym (map-append (λ (y : HostVariables). view_of y.name vs) xs (x ∷ []))

      next_more : EachNext vs (xs ++ x ∷ []) (slots_of_each t.next.items) (before.walks ++ w ∷ [])
      next_more =
          subst (λ (us : List Slots). EachNext vs (xs ++ x ∷ []) us (before.walks ++ w ∷ [])) (sym next)
          (next_joined vs xs (slots_of_each s.next.items) before.walks x (slots_view f.find.next.entries) w before.next named
          (subst (λ n. SlotsAgree (slots_view f.find.next.entries) (with_plays w.plays (view_of n vs))) named here.next))

      pub host_more : AreFound i ps vs ls (xs ++ x ∷ []) t
      host_more = record {
        walks = before.walks ++ w ∷ [];
        agrees = subst (λ (us : List HostWalk). AllHostsAgree (before.walks ++ w ∷ []) us) (sym (walked_joined i ps vs ls xs x))
            (agreeing_joined before.walks (hosts_walked i vs ps ls xs) w (host_walk i ps vs ls x) before.agrees here.agrees);
        fault = fault_more;
        settled = settled_more;
        same = same_more;
        calls = calls ∙ ap₂ (λ a b. a + b) before.calls here.calls ∙ sym (budget_joined before.walks w);
        next = next_more;
      }

-- what the others see of one host more
pub slots_pushed : (ms us : List Table) (m : Table) (ss : Slots) → us ≡ ms ++ m ∷ [] → slots_view m.value.entries ≡ ss → slots_of_each us ≡ slots_of_each ms ++ ss ∷ []
slots_pushed ms us m ss more same = ap slots_of_each more ∙ map-append (λ (x : Table). slots_view x.value.entries) ms (m ∷ []) ∙ ap (λ t. slots_of_each ms ++ t ∷ []) same

-- the verdict of a round under the fourth table
pub round_outcome : (i : Inventory) (ps : Program) (vs : List View) (ls : List (List Later)) (r : Round) → IsRound i ps vs ls r → AlwaysNamesHandlers i ps → ViewsAgree vs (views_after 4 i ps (found_laters ps i))
    → LatersAgree ls (found_laters ps i) → offence_verdict (option_map host_offence r.fault) (settled_verdict r.is_settled r.calls) ≡ flow_verdict ps i
round_outcome i ps vs ls r is always v l =
    let named = agreeing_name_handlers is.walks (all_walked i ps vs ls) is.agrees (always vs ls) in
    ap (λ o. offence_verdict o (settled_verdict r.is_settled r.calls)) (is.fault named) ∙ ap (λ q. offence_verdict (first_offence is.walks) (settled_verdict q r.calls)) is.settled
    ∙ ap (λ n. offence_verdict (first_offence is.walks) (settled_verdict (are_settled is.walks vs) n)) is.calls ∙ round_verdict i ps vs ls is.walks v l is.agrees

-- ---- all of them

module _ (j : inventory.Inventory) (v : Views) (at : v.inventory.now ≡ j) where
  abbrev i : Inventory
  i = inventory_view j

  same_views : views_view v ≡ views_from (host_names i) (slots_of_each v.hosts.items)
  same_views = ap (λ k. views_from (host_names (inventory_view k)) (slots_of_each v.hosts.items)) at

  same_size : length (slots_of_each v.hosts.items) ≡ length i.hosts
  same_size = length-map v.hosts.items (λ m. slots_view m.value.entries) ∙ v.each ∙ ap (λ k. length (inventory_view k).hosts) at

  -- each host's own is what others see
  seen_again : views_from (host_names i) (seen_of (views_view v) i.hosts) ≡ views_view v
  seen_again =
      ap (λ vs. views_from (host_names i) (seen_of vs i.hosts)) same_views
      ∙ ap (views_from (host_names i)) (seen_all i.hosts (slots_of_each v.hosts.items) (apart_hosts j) same_size) ∙ sym same_views

  pub is_round : (ps : Program) (ls : List (List Later)) (s : SoFar) (r : Round) → option_map host_offence r.fault ≡ option_map host_offence s.fault → r.is_settled ≡ s.is_settled → r.is_same ≡ s.is_same → r.calls ≡ s.calls
      → views_view r.next ≡ views_from (host_names i) (slots_of_each s.next.items) → AreFound i ps (views_view v) ls i.hosts s → IsRound i ps (views_view v) ls r
  is_round ps ls s r fault settled same calls next f = record {
    walks = f.walks;
    agrees = f.agrees;
    fault = λ h. fault ∙ f.fault h;
    settled = settled ∙ f.settled;
    same = λ e. next ∙ ap (views_from (host_names i)) (f.same (sym same ∙ e)) ∙ seen_again;
    calls = calls ∙ f.calls;
    next = subst (λ (us : List View). ViewsAgree us (next_views f.walks (views_view v))) (sym next)
        (next_agree (views_view v) i.hosts (slots_of_each s.next.items) f.walks (all_walked i ps (views_view v) ls) f.next (subst (λ (us : List View). WellViews us) next r.next.well) v.well f.agrees);
  }

-- where there is no host to name
pub nobody : HostVariables
nobody = record { name = []; variables = no_fields }
