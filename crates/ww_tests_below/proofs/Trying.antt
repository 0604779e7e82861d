-- A seat that has both nodes may commit that each has 1 more.
use Rattle.std.proofs.Common.{◌≡◌, ◌≢◌, ℕ, Option, IfSome, slice_set, ◌<◌, ◌≤◌, ◌+◌, ◌^◌, ◌∷◌, [], List, Bool, true, false, get_or, length, refl, sym, ap, subst, ◌∙◌, arith, Some, None}
use Rattle.std.specs.List.{AllByRecursion}
use mathlib.Core.Option.{some}
use lib.ListN.{get_elem?}
use Rattle.ww_plain.specs.Graph.{node_at}
use Rattle.atomic_table.proofs.Lists.{set_here, set_else}
use Rattle.ww_plain.proofs.Members.{among_cons, different_cons, different_none}
use Rattle.ww_view.specs.View.{owns}
use Rattle.ww_invariant.specs.Steps.{MayDraw}
use Rattle.ww_queue.specs.declared.kind.Kind.{Kind}
use Rattle.ww_plain.specs.declared.node.Node.{Node}
use Rattle.ww_plain.specs.declared.history.Record.{Record}
use Rattle.ww_plain.specs.declared.transaction.By.TheVariants.{List as by_list}
use Rattle.ww_plain.specs.Footprint.{footprint_of}
use Rattle.ww_plain.specs.Transaction.{Transaction, add, transaction_of}
use Rattle.ww_plain.specs.Meaning.{done}
use Rattle.ww_plain.specs.History.{Recorded, IsNext, recorded_of}
use Rattle.ww_table.specs.declared.board.Board.{Board}
use Rattle.ww_table.specs.declared.seat.Stepper.{Stepper}
use Rattle.ww_invariant.proofs.Totals.{places_few}
use Rattle.ww_table.specs.Seat.{size_of}
use Rattle.ww_table.specs.Made.{IsMade}
use Rattle.ww_table.proofs.Making.{all_from}
use Rattle.ww_seat.specs.declared.committing.NodeChange.{NodeChange}
use Rattle.ww_seat.specs.Accounts.{Account}
use Rattle.ww_seat.specs.Calls.{HoldsAll}
use Rattle.ww_seat.specs.Commits.{changes_of}
use Rattle.ww_seat.specs.Standings.{Standing, view_in, IsTry, MayCommit}
use Rattle.ww_tests_below.specs.Looking.{IsSmall, IsUnused, OwnsOnly, just, none, owned_in}
use Rattle.ww_tests_below.specs.Trying.{NamesNode, OwnsBoth, IsRecord, IsBetween, both_owned, draws_in, raising}
use Rattle.ww_tests_below.proofs.Holding.{bare_with, just_nodes, none_nodes}

-- what it adds
abbrev pub adding : Transaction
adding = add by_list ((0, 1) ∷ (1, 1) ∷ [])

abbrev pub pair : Node → Node → List Node
pair x y = x ∷ y ∷ []

abbrev said : ℕ → ℕ → Recorded
said who seq = record { caller = who; seq = seq; transaction = adding; answer = done }

owns_it : (s : Standing) (n : ℕ) → owned_in s ≡ both_owned → get_or both_owned n false ≡ true → get_or (owned_in s) n false ≡ true
owns_it s n is has = ap (λ (l : List Bool). get_or l n false) is ∙ has

holds_all : (board : Board) (x y : Node) (s : Standing) → OwnsBoth board x y s → HoldsAll s.me (pair x y) (0 ∷ 1 ∷ [])
holds_all board x y s o =
    let P : ℕ → Type 0 = λ n. (owns (view_in s) n ≡ true) × (get_elem? s.me.0.held n ≡ some (Some (node_at (pair x y) n))) in
    among_cons P 0 (1 ∷ []) (owns_it s 0 o.holds.owned refl, o.zero)
    (among_cons P 1 [] (owns_it s 1 o.holds.owned refl, o.one) (λ k e. absurd cc))

is_next : (x y : Node) (who seq : ℕ) → IsNext (pair x y) (said who seq)
is_next x y who seq = record {
  fits = (record { some = omega arith; few = omega arith }, (omega arith, (omega arith, tt)));
  no_double = different_cons 0 (1 ∷ []) refl (different_cons 1 [] refl different_none);
  answered = refl;
}

-- ---- one try to take a lock

pub took : (board : Board) (n : ℕ) (s s' : Standing) (r : Option Node) → n < 2 → OwnsOnly board (owned_in s) s → IsTry s n r s'
    → IfSome r (λ x. OwnsOnly board (slice_set (owned_in s) n true) s' × NamesNode n x s')
took board n s s' None low h t = tt
took board n s s' (Some x) low h t = let b = t.0.back in let a = t.1 in (
  record {
    small = h.small;
    at = record { home = ap (λ (v : Standing). v.home) b.same.now ∙ h.at.home; size = b.same.size ∙ h.at.size };
    context = subst (λ (k : ℕ). 0 < k) (sym (ap (λ (v : Account). v.stamp) a.now)) h.context;
    owned = ap (λ (v : Account). v.owned) a.now;
    away = b.away;
  },
  subst (λ (l : List (Option Node)). get_elem? l n ≡ some (Some x)) (sym (ap (λ (v : Account). v.held) a.now))
      (set_here s.me.0.held n (Some x) (omega (arith, low, h.at.size, h.small.two))),
)

pub others_stay : (n : ℕ) (s s' : Standing) (r : Option Node) → IsTry s n r s' → (k : ℕ) (y : Node) → k ≢ n → NamesNode k y s → NamesNode k y s'
others_stay n s s' None t k y isnt has =
    subst (λ (l : List (Option Node)). get_elem? l k ≡ some (Some y)) (sym (ap (λ (v : Account). v.held) t.1.tried)) has
others_stay n s s' (Some x) t k y isnt has =
    subst (λ (l : List (Option Node)). get_elem? l k ≡ some (Some y)) (sym (ap (λ (v : Account). v.held) t.1.now))
    (set_else s.me.0.held n k (Some x) isnt ∙ has)

pub below_none : (s : Standing) → owned_in s ≡ none → (n : ℕ) → get_or (owned_in s) n false ≡ true → n < 2
below_none s is n own = none_nodes 2 n (sym (ap (λ (l : List Bool). get_or l n false) is) ∙ own)

pub below_just : (s : Standing) (j : ℕ) → j < 2 → owned_in s ≡ just j → (n : ℕ) → get_or (owned_in s) n false ≡ true → n < 2
below_just s j low is n own = just_nodes 2 j low n (sym (ap (λ (l : List Bool). get_or l n false) is) ∙ own)

pub owns_both : (board board' : Board) (l : List Bool) (x y : Node) (s : Standing) → board' ≡ board → l ≡ both_owned → OwnsOnly board l s
    → NamesNode 0 x s → NamesNode 1 y s → OwnsBoth board' x y s
owns_both board board' l x y s same is holds zero one = record {
  holds = subst (λ (b : Board). OwnsOnly b both_owned s) (sym same) (subst (λ (o : List Bool). OwnsOnly board o s) is holds);
  zero = zero;
  one = one;
}

-- ---- a commit

-- room for a record changes nothing else
owns_still : (board : Board) (x y : Node) (s s' : Standing) → s' ≡ record s { room = s'.room } → OwnsBoth board x y s
    → OwnsBoth board x y s'
owns_still board x y s s' same o = let h = o.holds in subst (OwnsBoth board x y) (sym same) (record {
  holds = record {
    small = h.small;
    at = record { home = h.at.home; size = h.at.size };
    context = h.context;
    owned = h.owned;
    away = h.away;
  };
  zero = o.zero;
  one = o.one;
})

pub may_commit : (board : Board) (x y : Node) (s s' : Standing) (who seq : ℕ) (before : List Node) (r : Record) (c d : NodeChange)
    → OwnsBoth board x y s → s' ≡ record s { room = s'.room } → before ≡ pair x y → IsRecord who seq r
    → who ≡ (view_in s).who → seq ≡ length s.me.0.part.own → c ≡ raising 0 x → d ≡ raising 1 y → seq + 1 < 2 ^ 32 → 1 ≤ s'.room
    → MayCommit board r before (c ∷ d ∷ []) s'
may_commit board x y s s' who seq before r c d had same is told is_who is_seq first second fewer reserved =
    let o = owns_still board x y s s' same had in
    let small = o.holds.small in
    let at = o.holds.at in
    let what : transaction_of r.txn ≡ adding = ap (λ (t : Recorded). t.transaction) told in
    let who_is : who ≡ (view_in s').who = is_who ∙ sym (ap (λ (t : Standing). (view_in t).who) same) in
    let seq_is : seq ≡ length s'.me.0.part.own = is_seq ∙ sym (ap (λ (t : Standing). length t.me.0.part.own) same) in
    let now : c ∷ d ∷ [] ≡ raising 0 x ∷ raising 1 y ∷ [] = ap (λ (e : NodeChange). e ∷ d ∷ []) first
    ∙ ap (λ (e : NodeChange). raising 0 x ∷ e ∷ []) second in record {
      away = o.holds.away;
      owner = (0, owns_it s' 0 o.holds.owned refl);
      caller = ap (λ (t : Recorded). t.caller) told ∙ who_is;
      seq = ap (λ (t : Recorded). t.seq) told ∙ seq_is;
      next = subst (λ (g : List Node). IsNext g (recorded_of r)) (sym is)
          (subst (IsNext (pair x y)) (sym told) (is_next x y who seq));
      changes_are = now ∙ sym (ap (λ (g : List Node). changes_of g (transaction_of r.txn)) is
          ∙ ap (changes_of (pair x y)) what);
      size = ap length is ∙ sym small.two;
      held = subst (λ (g : List Node). HoldsAll s'.me g (footprint_of g (transaction_of r.txn))) (sym is)
          (subst (λ (t : Transaction). HoldsAll s'.me (pair x y) (footprint_of (pair x y) t)) (sym what) (holds_all board x y s' o));
      fewer = subst (λ (k : ℕ). k + 1 < 2 ^ 32) seq_is fewer;
      reserved = reserved;
    }

-- it may begin one
pub may_begin : (board : Board) (s : Standing) → IsBetween board s → draws_in s + 1 < 2 ^ 52 → MayDraw s.me.0.part
may_begin board s rests fewer = record { away = rests.away; no_context = rests.context; bare = bare_with s rests.owned; fewer = fewer }

-- ---- seats of a table that was made just now

pub made_unused : (kind : Kind) (graph : List Node) (locks count : ℕ) (board : Board) (seats : List Stepper)
    → IsMade kind graph locks count board seats → AllByRecursion (λ (q : Stepper). (k : ℕ) × IsUnused board k q) seats
made_unused kind graph locks count board seats made =
    all_from (λ (q : Stepper). (k : ℕ) × IsUnused board k q) seats (λ k q e. (k, made.seats_are.new k q e))

pub made_small : (kind : Kind) (graph : List Node) (locks count : ℕ) (board : Board) (seats : List Stepper)
    → IsMade kind graph locks count board seats → size_of board ≡ 2 → locks ≡ 64 → count ≤ 16 → IsSmall board
made_small kind graph locks count board seats made two room low =
    record { two = two; locks = made.locks_are ∙ room; few = made.places_are ∙ places_few count low }
