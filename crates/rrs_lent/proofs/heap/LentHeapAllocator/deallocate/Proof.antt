-- `deallocate` turns the block into the room again, and gives it to the heap. Assumes `Logic`.
use Rattle.std.proofs.Common.{◌≡◌, ℕ, ◌^◌, ◌<◌, List, [], ◌∷◌, ◌++◌, refl, sym, ap, subst, ◌∙◌, w64}
use mir.Syntax.{Ty, Fn, named}
use mir.Val.{Val, vint, vptr, vunit}
use base.Logic.{SProp, emp, id⊢, apply∗}
use base.Fml.{Fml, ftrue}
use prog.Memory.{size, align, capped}
use prog.Wp.{Env, WpFn}
use contract.Monad.{fact, fact_i}
use contract.Running.{tables}
use types.Logic.{sem}
use types.Kit.{‵, raw, ◌⊛◌, some, later, prop, ◌$◌, ◌∵◌, !, qed, by, move, keep, drop, use0, use1, use2, split, split3, join, pick, rewrite, regoal, fsplit, fjoin, fpick, feq_l, feq_i, flt_l, await}
use types.Part.{agg}
use types.Run.{unit_lit, of_opd, no_more, and_then, returns, enter}
use types.ByLocal.{alloc_all, pass_all, free_all, look_at, get, sets, lands_as, env}
use denote.RattleType.{RattleType, owns}
use denote.Builtin.{usize, unit}
use denote.RawPtr.{Ptr, ptr_val, room_for}
use denote.Ref.{shr_copy}
use denote.Signature.{types_at, type_at}
use denote.Steps.{nothing, only, heard}
use denote.Triple.Entry.{alive}
use denote.Triple.Spec.{triple_of}
use denote.Triple.Call.{calls_at}
use denote.Triple.Clauses.{Lasts, lasts}
use denote.Triple.Table.{framed}
use denote.Triple.Walked.{Stays, stay_dropped, walk_of, Goes-dropped}
use Rattle.std.proofs.ResultValues.{and_tt}
use Rattle.std.proofs.raw_atomic.Walks.{proved_at, leaves}
use Rattle.bumpalo.proofs.Values.{ptr_typed}
use Rattle.bumpalo.proofs.Walks.{slot_at}
use Rattle.rrs_lent.proofs.Values.{room_val, fields_own, room_made}
use Rattle.rrs_lent.specs.Ownership.{Place, room_owns, block_token}
use Rattle.rrs_lent.specs.contracts.lent_heap.LentHeap as lent
use Rattle.rrs_lent.proofs.lent_heap.LentHeap.TheLaws as lent_laws
use Rattle.rrs_lent.specs.contracts.lent_heap.LentHeap.size as sizer
use Rattle.rrs_lent.proofs.lent_heap.LentHeap.size.Met.{met as sizes}
use Rattle.rrs_lent.specs.contracts.lent_heap.LentHeap.give as callee
use Rattle.rrs_lent.proofs.lent_heap.LentHeap.give.Met.{met as gives}
use Rattle.rrs_lent.specs.contracts.room.Room as room
use Rattle.rrs_lent.specs.contracts.heap.LentHeapAllocator.deallocate.{ended, clauses}
use Rattle.rrs_lent.specs.contracts.heap.LentHeapAllocator.deallocate.Key.{name as #self}
use Rattle.rrs_lent.proofs.heap.LentHeapAllocator.deallocate.Statement.{statement}
use Rattle.rrs_lent.proofs.heap.LentHeapAllocator.deallocate.Code as compiled

pub deallocate_spec : {M : Type 1} → statement M
deallocate_spec 𝓤 𝓛 𝓜 𝓡 wired =
    let H = 𝓛.H in
    let En₀ = ended in
    let c₀ = clauses 𝓛 𝓜.mem 𝓡.returns in
    let fn : Fn = compiled.function in
    let stays : Stays En₀.signature.params En₀.kept = (stay_dropped (slot_at 0 En₀.signature.params) En₀.kept.0, (stay_dropped (slot_at 1 En₀.signature.params) En₀.kept.1.0, (stay_dropped (slot_at 2 En₀.signature.params) En₀.kept.1.1.0, (stay_dropped (slot_at 3 En₀.signature.params) En₀.kept.1.1.1.0, tt)))) in
    let c = c₀ in
    let 𝓣 = tables 𝓤 H 𝓜 𝓡 𝓡.env in
    let C = 𝓣.C in
    let Λ = 𝓣.Λ in
    proved_at 𝓛 En₀ stays c 𝓜 𝓡 (Goes-dropped 𝓛 1 (slot_at 0 En₀.signature.params) En₀.kept.0 (λ κs x f. refl), (Goes-dropped 𝓛 1 (slot_at 1 En₀.signature.params) En₀.kept.1.0 (λ κs x f. refl), (Goes-dropped 𝓛 1 (slot_at 2 En₀.signature.params) En₀.kept.1.1.0 (λ κs x f. refl), (Goes-dropped 𝓛 1 (slot_at 3 En₀.signature.params) En₀.kept.1.1.1.0 (λ κs x f. refl), tt)))) #self fn (compiled.unfolded 𝓤 H 𝓜 𝓡 wired) (λ z are.
    let Post : Val → SProp 𝓤 = (walk_of 𝓛 En₀ stays c).post z in
    let a = z.0.3 in
    let vss = z.0.4 in
    let r : Place = a.0.now.slot in
    let τ : Ty = z.1 in
    let from = a.1.0 in
    let n = a.1.1.0 in
    let al = a.1.1.1.0 in
    let m = r.1 in
    let me : Val = vptr a.0.ref_ptr.0 a.0.ref_ptr.1 in
    let Self : RattleType = type_at (slot_at 0 En₀.signature.params) z.0.0 in
    let S : Fml = Self.own_val a.0 (me ∷ []) in
    let good = ptr_typed from in
    let k₀ = triple_of 𝓛 sizer.signature (sizer.spec 𝓛 𝓜.mem 𝓡.returns) in
    let y₀ : k₀.Ghost = ((z.0.0, z.0.1, z.0.2, (a.0, tt), (me ∷ [], tt)), tt) in
    let k = triple_of 𝓛 callee.signature (callee.spec 𝓛 𝓜.mem 𝓡.returns) in
    let Asked : Type 0 = (capped (size τ) ≡ n) × (capped (align τ) ≡ al) in
    qed 𝓛 ((raw (alive 𝓛 En₀.signature z.0.0 z.0.1) ⊛ ‵ (owns (types_at En₀.signature.params z.0.0) a vss)) ∷ (raw (fact 𝓤 Asked) ⊛ ‵ (room_for τ from) ⊛ ‵ (block_token r τ from)) ∷ []) ∵
    move ! (1 ∷ []) $ split3 ! $ heard ! Asked (λ asked. move ! (1 ∷ []) $ fpick ! (λ lies. move ! (1 ∷ 0 ∷ []) $
    use2 𝓛 (‵ (room_owns r)) (apply∗ 𝓤 (sem 𝓛 (room_for τ from)) (sem 𝓛 (room_owns r))) $
    rewrite ! 0 (λ (p : Ptr). ‵ (room_owns (p, m))) (sym lies) refl $
    move ! (1 ∷ []) $ split ! $ move ! (1 ∷ []) $ fsplit ! $ fsplit ! $ keep ! (4 ∷ 1 ∷ 3 ∷ []) $
    regoal ! (λ (us : List Val). prop (WpFn 𝓤 H C Λ fn us Post)) (λ i. are.0.0 i ++ (are.1.0 i ++ (are.1.1.0.0 i ++ (are.1.1.1.0.0 i ++ [])))) refl $
    enter ! C Λ fn (me ∷ ptr_val from ∷ vint w64 n ∷ vint w64 al ∷ []) Post $
    alloc_all ! (λ l. pass_all ! refl ((tt, tt), (good, ((tt, record { fits = are.1.1.0.1 }), ((tt, record { fits = are.1.1.1.0.1 }), tt)))) $ let En : Env 𝓤 𝓛.H = env fn.locals l in
    move ! (1 ∷ []) $ feq_i ! (List Val) (me ∷ []) (me ∷ []) refl $ fjoin ! $
    use1 𝓛 (‵ S ⊛ ‵ S) ((shr_copy 𝓛 (named 0) z.0.0.0 lent.the_row (lent_laws.the_row_laws).shr_laws).twice a.0 (me ∷ [])) $ split ! $
    nothing ! $ move ! (1 ∷ 0 ∷ []) $ fjoin ! $ move ! (3 ∷ 0 ∷ []) $ join ! $ nothing ! $ move ! (1 ∷ 0 ∷ []) $ join ! $ use1 𝓛 (raw (k₀.pre y₀)) (id⊢ 𝓤 _) $
    calls_at ! (framed 𝓤 H 𝓜 𝓣) k₀ (sizes 𝓤 𝓛 𝓜 𝓡 (compiled.calls-rrs_lent::lent_heap::LentHeap::size 𝓡.env wired)) y₀ (and_then ! (get ! refl) (no_more !)) (λ v.
    use1 𝓛 (later (some (λ (j : ℕ). (raw (alive 𝓛 En₀.signature z.0.0 z.0.1) ⊛ ‵ (usize.own_val j (v ∷ []))) ⊛ some (λ (ls : Lasts sizer.ended z.0.0 y₀.0.3). ‵ (lasts sizer.ended z.0.0 y₀.0.3 ls) ⊛ raw (fact 𝓤 (j ≡ m)))))) (id⊢ 𝓤 (k₀.post y₀ v)) $
    await ! tt $ pick ! (λ j. split ! $ move ! (1 ∷ []) $ pick ! (λ _. split ! $ drop ! $ heard ! (j ≡ m) (λ said. split ! $ move ! (1 ∷ []) $ fsplit ! $ feq_l ! (λ e. flt_l ! (λ below.
    let fits : m < 2 ^ 64 = subst (λ (i : ℕ). i < 2 ^ 64) said below in
    lands_as ! (ap only e ∙ ap (vint w64) said) refl (tt, record { fits = fits }) $
    sets ! (agg ! (and_then ! (get ! refl) (and_then ! (get ! refl) (no_more !)))) refl (and_tt _ (good.0), (good.1, (record { fits = fits }, tt))) $
    let x : (room.the_row).Denot = record { start = from; size = m } in
    let w : Val = room_val from m in
    let y : k.Ghost = ((z.0.0, z.0.1, z.0.2, (a.0, (x, tt)), (me ∷ [], (w ∷ [], tt))), tt) in
    -- [the token; self; the room's units]
    use0 𝓛 (‵ (fields_own from m (w ∷ []))) (room_made 𝓛 from m fits) $ move ! (0 ∷ 3 ∷ []) $ fjoin ! $ nothing ! $ move ! (1 ∷ 0 ∷ []) $ fjoin ! $
    move ! (2 ∷ 0 ∷ []) $ fjoin ! $ move ! (1 ∷ 0 ∷ []) $ join ! $
    use0 𝓛 (raw (fact 𝓤 ((from, m) ≡ r))) (fact_i 𝓤 ((from, m) ≡ r) (emp 𝓤) (λ i. (lies i, m))) $ move ! (1 ∷ 0 ∷ []) $ join ! $ use1 𝓛 (raw (k.pre y)) (id⊢ 𝓤 _) $
    calls_at ! (framed 𝓤 H 𝓜 𝓣) k (gives 𝓤 𝓛 𝓜 𝓡 (compiled.calls-rrs_lent::lent_heap::LentHeap::give 𝓡.env wired)) y (and_then ! (get ! refl) (and_then ! (get ! refl) (no_more !))) (λ u.
    use1 𝓛 (later (some (λ (t : Unit {0}). (raw (alive 𝓛 En₀.signature z.0.0 z.0.1) ⊛ ‵ (unit.own_val t (u ∷ []))) ⊛ some (λ (ls : Lasts callee.ended z.0.0 y.0.3). ‵ (lasts callee.ended z.0.0 y.0.3 ls) ⊛ ‵ ftrue)))) (id⊢ 𝓤 (k.post y u)) $
    await ! tt $ pick ! (λ t. split ! $ move ! (1 ∷ []) $ drop ! $ split ! $ move ! (1 ∷ []) $ feq_l ! (λ e'. lands_as ! (ap only e') refl (tt, tt) $
    sets ! (of_opd ! (unit_lit !)) refl (tt, tt) $
    returns ! (look_at ! 0 refl) $ free_all ! refl $
    feq_i ! (List Val) (vunit ∷ []) (vunit ∷ []) refl $ nothing ! $ nothing ! $ nothing ! $ fjoin ! $ nothing ! $ fjoin ! $ nothing ! $ fjoin ! $ nothing ! $ fjoin ! $ move ! (3 ∷ 0 ∷ 2 ∷ 1 ∷ []) $
    by ! (leaves 𝓛 En₀ stays c z (vunit) (tt) (tt, (tt, (tt, (tt, tt)))) (tt, (tt, (tt, (tt, tt))))))))))))))))))
