-- The number of hosts, by the tickets that are told.
use Rattle.std.proofs.Common.{◌≡◌, ℕ, suc, zero, List, [], ◌∷◌, length, map, set, All, Option, None, replicate, sym, ap, ap₂, ◌∙◌, arith, refl}
use Rattle.std.proofs.lemmas.List.{length-map, length-set}
use Rattle.pb_core.specs.declared.host.HostState.{HostState}
use Rattle.pb_core.specs.declared.run.RunCore.{RunCore}
use Rattle.pb_core.specs.Hosts.{ticket_of, IsFresh}
use Rattle.pb_core.specs.Cores.{tickets_of}

module _ {P : Type 0} where
  pub tickets_count : (c : RunCore P) → length (tickets_of c) ≡ length c.hosts.items
  tickets_count c = length-map c.hosts.items (λ x. ticket_of x.stage)

  -- as many hosts as before
  pub hosts_same : (old new : RunCore P) → tickets_of new ≡ tickets_of old → length new.hosts.items ≡ length old.hosts.items
  hosts_same old new e = sym (tickets_count new) ∙ ap length e ∙ tickets_count old

  pub hosts_stay : (old new : RunCore P) (k : ℕ) (t : Option ℕ) → tickets_of new ≡ set (tickets_of old) k t → length new.hosts.items ≡ length old.hosts.items
  hosts_stay old new k t e = sym (tickets_count new) ∙ ap length e ∙ length-set (tickets_of old) k t ∙ tickets_count old

  pub fresh_tickets : (xs : List (HostState P)) (n : ℕ) → All IsFresh xs → length xs ≡ n → map (λ x. ticket_of x.stage) xs ≡ replicate n None
  fresh_tickets [] zero i e = refl
  fresh_tickets [] (suc n) i e = absurd (grind arith)
  fresh_tickets (x ∷ xs) zero i e = absurd (grind arith)
  fresh_tickets (x ∷ xs) (suc n) i e =
      ap₂ (λ t ts. t ∷ ts) (ap ticket_of (i 0 x (omega arith)).stage) (fresh_tickets xs n (λ k d h. i (suc k) d (omega arith)) (omega (arith, e)))
