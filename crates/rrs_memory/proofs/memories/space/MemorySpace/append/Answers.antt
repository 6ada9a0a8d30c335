use Rattle.std.proofs.Common.{◌≡◌, ◌++◌, ◌∷◌, [], length, map, ap, ◌∙◌, arith}
use Rattle.std.proofs.lemmas.List.{map_push}
use Rattle.rrs_memory.specs.SpaceFields.{region_of}
use Rattle.rrs_memory.proofs.RegionFields.{IsSpace-after_push}
use Rattle.rrs_memory.proofs.SearchOrder.{order_inserted, order_pushed_empty}
use Rattle.rrs_memory.proofs.memories.space.MemorySpace.append.Given as given
use Rattle.rrs_memory.proofs.memories.space.MemorySpace.append.Goals as goal
use Rattle.rrs_memory.proofs.memories.space.MemorySpace.append.Goals.{then-region-gt0+in_ok-insert, else-region-gt0}

-- the list of the code after the push
pushed : (g : given.Over) (c : goal.After-push_reserved g) → c.push_reserved.new.regions.items ≡ c.self.inside.regions.items ++ c.args.region ∷ []
pushed g c =
    elim c.if-region-gt0.branch [
      | then-region-gt0+in_ok-insert w ↦ c.push_reserved.ensures ∙ ap (λ s. s.regions.items ++ c.args.region ∷ []) w.self-inside-is ∙ ap (λ xs. xs ++ c.args.region ∷ []) c.reserve.ensures.items
      | else-region-gt0 w ↦ c.push_reserved.ensures ∙ ap (λ s. s.regions.items ++ c.args.region ∷ []) w.self-inside-is ∙ ap (λ xs. xs ++ c.args.region ∷ []) c.reserve.ensures.items
    ]

pub returns-clause-ok : goal.returns-clause-ok
returns-clause-ok g c =
    ap (λ xs. map region_of xs) (pushed g c) ∙ map_push region_of _ c.args.region
    ∙ ap (λ xs. xs ++ region_of c.args.region ∷ []) (ap (λ s. s.regions) c.self.view_is)

pub returns-clause-space : goal.returns-clause-space
returns-clause-space g c =
    IsSpace-after_push c.self.inside.regions.items c.push_reserved.new.regions.items c.args.self.now.regions c.args.region (ap (λ s. s.regions) c.self.view_is) c.self.invariant.0 c.requires.word c.requires.apart (pushed g c)

pub invariant_of-self-2 : goal.invariant_of-self-2
invariant_of-self-2 g c =
    let fields = c.self.inside.regions.items in
    let order = c.self.inside.by_base.items in
    let view : map region_of fields ≡ c.args.self.now.regions = ap (λ s. s.regions) c.self.view_is in (
      returns-clause-space g c,
      elim c.if-region-gt0.branch [
        | then-region-gt0+in_ok-insert w ↦
            let shown = w.deref.ensures.value ∙ c.reserve.ensures.items in
            let within = rw w.deref-then-region-gt0.ensures.value at w.place_of-place.ensures.within in
            let before = rw (shown, w.deref-then-region-gt0.ensures.value) at w.place_of-place.ensures.before in
            let after = rw (shown, w.deref-then-region-gt0.ensures.value) at w.place_of-place.ensures.after in
            let index : w.len.result ≡ length fields = omega (arith, w.len.ensures, c.reserve.ensures.len, c.self.inside.regions.ok.0) in
            rw (ap (λ s. s.by_base.items) w.self-inside-is)
            (order_inserted _ order c.self.invariant.1 _ _ _ _ _ c.args.region view c.requires.apart (pushed g c) w.in_ok-insert.ensures.items index w.if-region-gt0.true within before after)
        | else-region-gt0 w ↦
            rw (ap (λ s. s.by_base.items) w.self-inside-is) (order_pushed_empty _ order c.self.invariant.1 _ c.args.region (pushed g c) (omega arith))
      ],
    )
