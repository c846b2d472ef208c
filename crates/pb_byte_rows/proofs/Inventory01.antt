-- Cases of inventory, computed from the bytes of their files.
use Rattle.std.specs.Prelude.{◌≡◌, refl, [], ◌∷◌, Some, codes}
use Rattle.pb_language.specs.Verdict.{accepted, refused}
use Rattle.pb_byte_rows.specs.Found.{wrong_inventory, verdict, found}
use Rattle.pb_byte_rows.proofs.Computing.{reading}

-- empty
inventory_001 : found (codes "{}") (codes "[]") ≡ verdict (accepted 0)
unfolding reading
inventory_001 = refl

-- a group is a text
inventory_003 : found (codes "{\"a\": \"h1\"}") (codes "[]") ≡ wrong_inventory 2
unfolding reading
inventory_003 = refl

-- other keys alone
inventory_005 : found (codes "{\"a\": {\"zz\": 1}}") (codes "[]") ≡ wrong_inventory 2
unfolding reading
inventory_005 = refl

-- hosts null
inventory_008 : found (codes "{\"a\": {\"hosts\": null}}") (codes "[]") ≡ wrong_inventory 2
unfolding reading
inventory_008 = refl

-- host name empty
inventory_011 : found (codes "{\"a\": [\"\"]}") (codes "[]") ≡ wrong_inventory 3
unfolding reading
inventory_011 = refl

-- host name with a blank
inventory_012 : found (codes "{\"a\": [\"h 1\"]}") (codes "[]") ≡ wrong_inventory 3
unfolding reading
inventory_012 = refl

-- host name with :
inventory_013 : found (codes "{\"a\": [\"h:1\"]}") (codes "[]") ≡ wrong_inventory 3
unfolding reading
inventory_013 = refl

-- host name not ASCII
inventory_014 : found (123 ∷ 34 ∷ 97 ∷ 34 ∷ 58 ∷ 32 ∷ 91 ∷ 34 ∷ 195 ∷ 169 ∷ 34 ∷ 93 ∷ 125 ∷ []) (codes "[]") ≡ wrong_inventory 3
unfolding reading
inventory_014 = refl

-- children null
inventory_018 : found (codes "{\"a\": {\"children\": null}}") (codes "[]") ≡ wrong_inventory 2
unfolding reading
inventory_018 = refl

-- a child a number
inventory_019 : found (codes "{\"a\": {\"children\": [1]}}") (codes "[]") ≡ wrong_inventory 2
unfolding reading
inventory_019 = refl

-- a child's name bad
inventory_020 : found (codes "{\"a\": {\"children\": [\"1b\"]}}") (codes "[]") ≡ wrong_inventory 2
unfolding reading
inventory_020 = refl

-- group name with a blank
inventory_022 : found (codes "{\"a b\": []}") (codes "[]") ≡ wrong_inventory 2
unfolding reading
inventory_022 = refl

-- cycle of one
inventory_027 : found (codes "{\"a\": {\"children\": [\"a\"]}}") (codes "[]") ≡ wrong_inventory 4
unfolding reading
inventory_027 = refl

-- cycle of two
inventory_028 : found (codes "{\"a\": {\"children\": [\"b\"]}, \"b\": {\"children\": [\"a\"]}}") (codes "[]") ≡ wrong_inventory 4
unfolding reading
inventory_028 = refl

-- all as a child
inventory_029 : found (codes "{\"a\": {\"children\": [\"all\"]}}") (codes "[]") ≡ wrong_inventory 4
unfolding reading
inventory_029 = refl

-- ungrouped with children
inventory_033 : found (codes "{\"ungrouped\": {\"children\": [\"a\"]}}") (codes "[]") ≡ wrong_inventory 2
unfolding reading
inventory_033 = refl

-- ungrouped is its own child: I02 is less than I04
inventory_035 : found (codes "{\"ungrouped\": {\"children\": [\"ungrouped\"]}}") (codes "[]") ≡ wrong_inventory 2
unfolding reading
inventory_035 = refl

-- hostvars a list
inventory_041 : found (codes "{\"_meta\": {\"hostvars\": []}}") (codes "[]") ≡ wrong_inventory 2
unfolding reading
inventory_041 = refl

-- hostvars of a bad host name of no group
inventory_046 : found (codes "{\"_meta\": {\"hostvars\": {\"a b\": {}}}}") (codes "[]") ≡ verdict (accepted 0)
unfolding reading
inventory_046 = refl

-- I02 and I03
inventory_047 : found (codes "{\"a\": [\"h 1\"], \"b\": 5}") (codes "[]") ≡ wrong_inventory 2
unfolding reading
inventory_047 = refl

-- I03 and I04
inventory_048 : found (codes "{\"a\": {\"hosts\": [\"h 1\"], \"children\": [\"a\"]}}") (codes "[]") ≡ wrong_inventory 3
unfolding reading
inventory_048 = refl

-- vars names are free
inventory_049 : found (codes "{\"all\": {\"vars\": {\"a-b\": 1, \"\": 2}}}") (codes "[]") ≡ verdict (accepted 0)
unfolding reading
inventory_049 = refl

-- reserved names are passed over
inventory_050 : found (codes "{\"all\": {\"vars\": {\"groups\": 1, \"item\": 2, \"and\": 3, \"ansible_hostname\": 4}}}") (codes "[]") ≡ verdict (accepted 0)
unfolding reading
inventory_050 = refl

-- read hostvars['h1'].ansible_hostname
inventory_052 : found (codes "{\"all\": {\"hosts\": [\"h1\"], \"vars\": {\"ansible_hostname\": 1}}}") (codes "[{\"hosts\": \"all\", \"tasks\": [{\"debug\": {\"msg\": \"{{ hostvars['h1'].ansible_hostname }}\"}}]}]") ≡ verdict (refused (record { code = 2; line = 2; host = Some (codes "h1") }))
unfolding reading
inventory_052 = refl

-- read ansible_hostname
inventory_053 : found (codes "{\"all\": {\"hosts\": [\"h1\"], \"vars\": {\"ansible_hostname\": 1}}}") (codes "[{\"hosts\": \"all\", \"tasks\": [{\"debug\": {\"msg\": \"{{ ansible_hostname }}\"}}]}]") ≡ verdict (refused (record { code = 1; line = 2; host = Some (codes "h1") }))
unfolding reading
inventory_053 = refl

-- read x
inventory_055 : found (codes "{\"all\": {\"hosts\": [\"h1\"], \"vars\": {\"x\": \"{%\"}}}") (codes "[{\"hosts\": \"all\", \"tasks\": [{\"debug\": {\"msg\": \"{{ x }}\"}}]}]") ≡ verdict (refused (record { code = 4; line = 2; host = Some (codes "h1") }))
unfolding reading
inventory_055 = refl

-- read x
inventory_056 : found (codes "{\"all\": {\"hosts\": [\"h1\"], \"vars\": {\"x\": \"{#\"}}}") (codes "[{\"hosts\": \"all\", \"tasks\": [{\"debug\": {\"msg\": \"{{ x }}\"}}]}]") ≡ verdict (refused (record { code = 4; line = 2; host = Some (codes "h1") }))
unfolding reading
inventory_056 = refl

-- read x
inventory_058 : found (codes "{\"all\": {\"hosts\": [\"h1\"], \"vars\": {\"x\": \"}}\"}}}") (codes "[{\"hosts\": \"all\", \"tasks\": [{\"debug\": {\"msg\": \"{{ x }}\"}}]}]") ≡ verdict (accepted 0)
unfolding reading
inventory_058 = refl

-- read x
inventory_060 : found (codes "{\"all\": {\"hosts\": [\"h1\"], \"vars\": {\"x\": {\"k\": \"{{ a }}\"}}}}") (codes "[{\"hosts\": \"all\", \"tasks\": [{\"debug\": {\"msg\": \"{{ x }}\"}}]}]") ≡ verdict (accepted 0)
unfolding reading
inventory_060 = refl

-- read x is defined
inventory_063 : found (codes "{\"all\": {\"hosts\": [\"h1\"], \"vars\": {\"x\": 1.5}}}") (codes "[{\"hosts\": \"all\", \"tasks\": [{\"debug\": {\"msg\": \"{{ x is defined }}\"}}]}]") ≡ verdict (accepted 0)
unfolding reading
inventory_063 = refl

-- read x | default(1)
inventory_064 : found (codes "{\"all\": {\"hosts\": [\"h1\"], \"vars\": {\"x\": 1.5}}}") (codes "[{\"hosts\": \"all\", \"tasks\": [{\"debug\": {\"msg\": \"{{ x | default(1) }}\"}}]}]") ≡ verdict (refused (record { code = 4; line = 2; host = Some (codes "h1") }))
unfolding reading
inventory_064 = refl

-- read [x] | length
inventory_065 : found (codes "{\"all\": {\"hosts\": [\"h1\"], \"vars\": {\"x\": 1.5}}}") (codes "[{\"hosts\": \"all\", \"tasks\": [{\"debug\": {\"msg\": \"{{ [x] | length }}\"}}]}]") ≡ verdict (refused (record { code = 4; line = 2; host = Some (codes "h1") }))
unfolding reading
inventory_065 = refl
