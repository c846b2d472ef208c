use Rattle.std.proofs.Common.{◌∷◌, [], subst}
use Rattle.pb_rules.specs.Sites.{ArePut, site_in, task_list}
use Rattle.pb_rules.specs.declared.site.Around.{Around}
use Rattle.pb_rules.proofs.Put.{put_one}
use Rattle.pb_rules.proofs.sites.put.Goals as goal

pub returns : goal.returns
returns c =
    subst (λ (a : Around). ArePut c.args.sites.now.items c.push.new.self.items (site_in a c.args.thing ∷ []) (task_list c.args.thing)) c.in_ok-clone.ensures.cases
    (put_one c.args.sites.now.items c.push.new.self.items (record { thing = c.args.thing; around = c.in_ok-clone.field-0 }) c.in_ok-push.ensures.items)
