-- `lend` lends the desk behind the address, and the slot follows it. Assumes `Logic`.
use mathlib.Core.Path.{refl, sym, subst}
use Prim.Native.Nat.{ℕ}
use mathlib.Core.List.{List, [], ◌∷◌, ◌++◌}
use seplogic.Ra.Ura.{Ura}
use base.Fraction.{full_share}
use mir.Syntax.{named}
use mir.Raw.{raw as bare}
use mir.Val.{Val, vptr}
use base.Logic.{SProp, ent, sep}
use base.Fml.{Lft, GName, Share, Fml, ftrue, fsep, flft, fobs, fbor}
use prog.Memory.{Memory}
use prog.Routine.{Routine}
use prog.Wp.{Env, WpFn, Tables}
use types.Logic.{Logic, sem}
use types.SemTy.{Body as Borrowed}
use contract.Monad.{Fun}
use contract.Running.{tables, tables_of}
use sound.WpLaws.{WpFn-mono}
use types.Kit.{Item, ⋆, ‵, raw, ◌⊛◌, some, later, await, pick, at_ret, ◌$◌, ◌∵◌, !, qed, by, move, keep, use1, split, join, group, rewrite, fsplit, fsplit3, fjoin, fpack, feq_l, suffices, frame, done}
use types.Part.{whole, sub, look_in}
use types.Run.{stop, fld, load, of_opd, addr, first, blocks, exec, returns, enter}
use types.ByLocal.{alloc_all, pass_all, free_all, look_at, get, through, sets, sets_last, env}
use denote.Exit.{no}
use denote.RattleType.{owns}
use denote.Memory.{mem, cell_at, part_at, part_of}
use denote.RawPtr.{Ptr, block_ptr}
use denote.Ref.{MutBor, MutRef}
use denote.Signature.{plain, mut_ref_to}
use denote.Steps.{nothing, opens}
use denote.Follow.{follows, Part, lends_Part}
use denote.Triple.Entry.{on_entry}
use denote.Triple.Spec.{triple_of}
use denote.Triple.Table.{entered}
use denote.Triple.Walked.{says, needs, Stays, stay_dropped, walk_of, ends_at, Goes-spent_ref, walk_Meets}
use Rattle.core.proofs.alloc.Calls.{token}
use Rattle.std_alloc.proofs.BoxSteps.Form.{D, τ, handle, word}
use Rattle.std_alloc.proofs.BoxSteps.Steps.{box_out, box_in}
use Rattle.std_alloc.proofs.VecSteps.Shapes.{after}
use Rattle.std.proofs.Common.{◌≡◌, Option, Some, None, true, true≢false}
use Rattle.std.specs.Global.{Global}
use Rattle.ww_steps.specs.contracts.desk.Desk as Desk
use Rattle.ww_c.specs.Slots.{is_full}
use Rattle.ww_c.specs.Lending.{with_desk}
use Rattle.ww_c.specs.declared.slot.Slot.{Slot}
use Rattle.ww_c.specs.contracts.slot.Slot as Held
use Rattle.ww_c.specs.contracts.slot.Slot.lend as F
use Rattle.ww_c.specs.contracts.slot.Slot.lend.Key.{name as #self}
use Rattle.ww_c.proofs.AsBox.{E}
use Rattle.ww_c.proofs.slot.Slot.lend.Statement as stated
use Rattle.ww_c.proofs.slot.Slot.lend.Code as code

abbrev stayed : Stays (F.ended).signature.params (F.ended).kept
stayed = (stay_dropped (mut_ref_to (0 ∷ []) tt (plain (λ _. Held.the_row))) no, tt)

module _ {M : Type 1} {𝓤 : Ura M} (𝓛 : Logic 𝓤) (at_mem : Memory → SProp 𝓤) (run : Routine → Fun 𝓤)
    (𝓣 : Tables 𝓤 𝓛.H) (κ : Lft) (q : Share) (rb ro : ℕ) (γ : GName) where
  open 𝓛 use {H, A}

  abbrev W : Type 0
  W = Desk.the_row.Denot

  abbrev self_at : Slot → MutBor Slot
  self_at s = record { ref_ptr = (rb, ro); ghost_name = γ; now = s }

  abbrev bound : Slot → List Val → (walk_of 𝓛 F.ended stayed (F.clauses 𝓛 at_mem run)).Ghost
  bound s us = (((κ, tt), (q, tt), tt, (self_at s, tt), (us, tt)), tt)

  abbrev Post : Slot → List Val → Val → SProp 𝓤
  Post s us = (walk_of 𝓛 F.ended stayed (F.clauses 𝓛 at_mem run)).post (bound s us)

  module _ (p : Ptr) (a : Global) (x : W) where
    abbrev slot : Slot
    slot = record { at = p; alloc = a; desk = Some x }

    module _ (b o : ℕ) (hv : Val) where
      -- all of the slot but its desk
      abbrev Rest : Fml
      Rest = fsep (fsep (token E.al a (bare (τ E)) (block_ptr b o)) (handle E a hv))
          (cell_at full_share Held.the_row.mir (word E hv b o ∷ []) rb ro)

      back : p ≡ block_ptr b o → (w : W) →
          ent 𝓤 (sep 𝓤 (sem 𝓛 ((mem Desk.the_row).own_at w b o)) (sem 𝓛 Rest))
          (sem 𝓛 ((mem Held.the_row).own_at (with_desk slot w) rb ro))
      unfolding part_of
      back at_b w =
          let d : D E = record { ptr = p; alloc = a; value = w } in
          qed 𝓛 (‵ (part_at Desk.the_row full_share w b o) ∷ ‵ Rest ∷ []) ∵ move ! (1 ∷ []) $ fsplit ! $ fsplit ! $ move ! (3 ∷ []) $
          box_in E ! d b o w at_b refl $ move ! (1 ∷ 0 ∷ []) $ fjoin ! $
          fpack ! (List Val) (λ us. fsep (cell_at full_share Held.the_row.mir us rb ro)
          (Held.the_row.own_val (with_desk slot w) us)) (word E hv b o ∷ []) $ done !

      exits : (γ' : GName)
          → ent 𝓤 (sep 𝓤 (sem 𝓛 ((MutRef (named 0) κ Desk.the_row).own_val
          (record { ref_ptr = (b, o); ghost_name = γ'; now = x }) (vptr b o ∷ [])))
          (sep 𝓤 (A.lft κ q) (sem 𝓛 (follows Held.the_row Desk.the_row γ γ' (with_desk slot)))))
          (Post slot (vptr rb ro ∷ []) (vptr b o))
      exits γ' =
          qed 𝓛 (‵ ((MutRef (named 0) κ Desk.the_row).own_val
          (record { ref_ptr = (b, o); ghost_name = γ'; now = x }) (vptr b o ∷ [])) ∷ ‵ (flft κ q) ∷ ‵
          (follows Held.the_row Desk.the_row γ γ' (with_desk slot)) ∷ []) ∵
          suffices ! _ (ends_at 𝓛 F.ended stayed (F.clauses 𝓛 at_mem run) (bound slot (vptr rb ro ∷ [])) (vptr b o)
          (record { ref_ptr = (b, o); ghost_name = γ'; now = x }) (tt, tt) (tt, tt)) $
          nothing ! $ nothing ! $ fjoin ! $ join ! $ nothing ! $ move ! (2 ∷ 0 ∷ []) $ join ! $ join ! $ frame ! $ says ! refl $ done !

    abbrev Had : List (Item 𝓤)
    Had = ‵ (fobs γ (Held.the_row.coded.code slot)) ∷ ‵ (fbor κ (Borrowed (mem Held.the_row) rb ro γ)) ∷ ‵ (flft κ q) ∷ []

    walk : ent 𝓤 (⋆ 𝓛 Had) (WpFn 𝓤 H 𝓣.C 𝓣.Λ code.function (vptr rb ro ∷ []) (Post slot (vptr rb ro ∷ [])))
    walk =
        let v : D E = record { ptr = p; alloc = a; value = x } in
        let coded = Held.the_row.coded.code slot in
        qed 𝓛 Had ∵ enter ! 𝓣.C 𝓣.Λ code.function (vptr rb ro ∷ []) _ $
        alloc_all ! (λ l. pass_all ! refl ((tt, tt), tt) $
        let En : Env 𝓤 H = env code.function.locals l in
        opens ! tt Held.the_row {h = slot} rb ro
        (λ vs. move ! (1 ∷ []) $ box_out E ! v vs
        (λ b o hv at_b ws fa. move ! (1 ∷ 2 ∷ []) $ fjoin ! $ move ! (1 ∷ []) $
        rewrite ! 2 (λ (us : List Val). ‵ (cell_at full_share Held.the_row.mir us rb ro)) ws refl $
        first ! $ blocks ! $
        sets ! (of_opd ! (load ! (through ! refl (fld ! refl (stop !))) (look_in ! 2 (sub ! 0 refl (whole !))))) refl (tt, tt) $
        sets ! (of_opd ! (get ! refl)) refl (tt, tt) $
        sets_last ! (addr ! (through ! refl (stop !))) refl (tt, tt) $
        exec ! 𝓣.C 𝓣.Λ En (after 1 code.function.body) (at_ret En (Post slot (vptr rb ro ∷ []))) $
        sets ! (of_opd ! (get ! refl)) refl (tt, tt) $
        move ! (1 ∷ 2 ∷ []) $ fjoin ! $ move ! (2 ∷ 3 ∷ 4 ∷ 1 ∷ 0 ∷ []) $ group ! 5 $
        use1 𝓛 (later (some (λ (γ' : GName). raw
        (Part 𝓛 Held.the_row Desk.the_row (with_desk slot) (named 0) κ q rb ro b o γ (sem 𝓛 (Rest b o hv))
        (back b o hv at_b) x γ'))))
        (lends_Part 𝓛 Held.the_row Desk.the_row (with_desk slot) (named 0) κ q rb ro b o γ (sem 𝓛 (Rest b o hv))
        (back b o hv at_b) coded coded x) $ await ! tt $ pick ! (λ γ'.
        returns ! (look_at ! 0 refl) $ free_all ! refl $
        keep ! (0 ∷ []) $ by ! (exits b o hv γ')))))

  entry : (p : Ptr) (a : Global) (o : Option W) (us : List Val) → is_full o ≡ true
      → ent 𝓤 (on_entry 𝓛 (F.ended).signature (κ, tt) (q, tt) (self_at (record { at = p; alloc = a; desk = o }), tt)
      (us, tt)) (WpFn 𝓤 H 𝓣.C 𝓣.Λ code.function (us ++ []) (Post (record { at = p; alloc = a; desk = o }) us))
  entry p a None us e = absurd (true≢false (sym e))
  entry p a (Some x) us e =
      qed 𝓛 ((‵ (flft κ q) ⊛ ‵ ftrue) ∷ ‵ (owns (MutRef (named 0) κ Held.the_row ∷ []) (self_at (slot p a x), tt) (us, tt)) ∷ []) ∵
      split ! $ move ! (2 ∷ []) $ fsplit ! $ fsplit3 ! $ feq_l ! (λ e0. keep ! (0 ∷ 1 ∷ 3 ∷ []) $
      by ! (subst (λ (ws : List Val). ent 𝓤 (⋆ 𝓛 (Had p a x))
      (WpFn 𝓤 H 𝓣.C 𝓣.Λ code.function (ws ++ []) (Post (slot p a x) ws))) (sym e0) (walk p a x)))

pub lend_spec : {M : Type 1} → stated.statement M
unfolding tables_of
lend_spec 𝓤 𝓛 𝓜 𝓡 wired =
    let 𝓣 : Tables 𝓤 𝓛.H = tables_of 𝓤 𝓛.H 𝓜 (tables 𝓤 𝓛.H 𝓜 𝓡 𝓡.env) in
    entered 𝓤 𝓛.H (triple_of 𝓛 F.signature (F.spec 𝓛 𝓜.mem 𝓡.returns)) 𝓣.C 𝓣.Λ #self code.function (code.unfolded 𝓤 𝓛.H 𝓜 𝓡 wired)
    (walk_Meets 𝓛 F.ended stayed (Goes-spent_ref 𝓛 1 (0 ∷ []) tt (plain (λ _. Held.the_row)), tt)
    (F.clauses 𝓛 𝓜.mem 𝓡.returns) (WpFn 𝓤 𝓛.H 𝓣.C 𝓣.Λ code.function) (WpFn-mono 𝓤 𝓛.H 𝓛.laws 𝓣 code.function)
    (λ z. needs 𝓤 (is_full z.0.3.0.now.desk ≡ true) _
    (entry 𝓛 𝓜.mem 𝓡.returns 𝓣 z.0.0.0 z.0.1.0 z.0.3.0.ref_ptr.0 z.0.3.0.ref_ptr.1 z.0.3.0.ghost_name
    z.0.3.0.now.at z.0.3.0.now.alloc z.0.3.0.now.desk z.0.4.0)))
