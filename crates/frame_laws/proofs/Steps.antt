-- A step of a node, or its start: what it leaves where all its records were committed, and where a stop cut it off.
use Rattle.std.proofs.Common.{◌≡◌, ⊎_elim, ℕ, ◌+◌, ◌<◌, ◌≤◌, Bool, true, false, cond, List, [], ◌∷◌, take, filter, refl, sym, ap, ◌∙◌, subst, Option, Some, None, flat_map, arith}
use Rattle.std.proofs.lemmas.Bool.{eqb-true}
use Rattle.std.specs.Prelude.{◌==◌}
use Rattle.std.specs.List.{AllByRecursion}
use Rattle.id_table.specs.Ids.{at}
use Rattle.session_book.specs.declared.record.BookTunnel.{BookTunnel}
use Rattle.session_book.specs.declared.record.BookCall.{BookCall}
use Rattle.session_book.specs.Books.{Kept, calls_of}
use Rattle.schedule_text.specs.declared.line.Line.TheVariants.{Start}
use Rattle.end_model.specs.Access.{Access}
use Rattle.end_model.specs.declared.event.Event.{Event}
use Rattle.end_model.specs.declared.event.Event.TheVariants.{OpenTunnel, Payload, Lower}
use Rattle.end_model.specs.declared.moves.Restored.{Restored}
use Rattle.end_model.specs.declared.moves.Move.{Move}
use Rattle.end_model.specs.declared.moves.Move.TheVariants as move
use Rattle.end_model.specs.declared.out.Out.{Out}
use Rattle.end_model.specs.declared.out.Out.TheVariants.{Send, Up, Gone, Drop, Cause}
use Rattle.end_model.specs.Contents.{contents_of}
use Rattle.end_model.specs.Starting.{bare_end, starts}
use Rattle.end_model.specs.End.{End, Stepped, plain_step}
use Rattle.world_model.specs.World.{World, Node, Checkpoint, Sender, IsCut, IsWhole, commits, after_step, block_of}
use Rattle.step_laws.specs.Letters.{Among}
use Rattle.step_laws.specs.Lines.{IsAt}
use Rattle.step_laws.specs.Starts.{IsSoundTunnel, IsSoundCall, IsSoundBook, IsOfStart}
use Rattle.step_laws.specs.Steps.{IsChain, IsOfNoStart}
use Rattle.step_laws.specs.Ups.{ups_of_output, ups_of_move}
use Rattle.book_laws.specs.Books.{Mirrors, StepIsBooked}
use Rattle.book_laws.specs.Starts.{StartIsBooked, IsSentOrGone}
use Rattle.node_laws.specs.Nodes.{HoldsNode, HoldsUp}
use Rattle.node_laws.proofs.Nodes.{whole_book, cut_front, cut_book}
use Rattle.frame_laws.specs.Codecs.{Codecs}
use Rattle.frame_laws.specs.Past.{Passage}
use Rattle.frame_laws.specs.Frames.{GivesInMoves}
use Rattle.frame_laws.proofs.Facts.{StepLaws, CallBooked, BooksCall, BookOk, Holds, all_map}
use Rattle.frame_laws.proofs.Leads.{At}
use Rattle.frame_laws.proofs.RecoveryMoves.{IsFounded}
use Rattle.frame_laws.proofs.EachMove.{Founded, of_no_start}
use Rattle.frame_laws.proofs.Deeds.{all_among}
use Rattle.frame_laws.proofs.Stops.{step_fronts, start_fronts}
use Rattle.frame_laws.proofs.Worlds.{Below, LineGives, ByStart, WhyGiven, ByEvent, ByLinkIn, StepGives, IsReal, heard_of, IsStep, StepOk, step_ok}
use Rattle.frame_laws.proofs.Falls.{ceilings_rise}

-- each node is as node_laws says
abbrev pub NodesHold : World → Type 0
NodesHold w = (n : ℕ) (node : Node) → at w.nodes n ≡ Some node → HoldsNode node

-- what a checkpoint has that a stop left: its book fits together, has what is so of calls, and no ceiling of it is below an id that was
-- drawn
pub record CutBook (w : World) (n : ℕ) (e : End) (c : Checkpoint) : Type 0 where
  pub sound : IsSoundBook c.book
  pub above : e.session_ids.next ≤ c.book.session_ceiling + 1
  pub book : BookOk w.nodes n c.book

-- ---- the moves of a start

-- those that a test keeps
kept_so : {X : Type 0} (P R : X → Type 0) (q : X → Bool) → ((x : X) → P x → q x ≡ true → R x) → (xs : List X) → AllByRecursion P xs
    → AllByRecursion R (filter q xs)
kept_so P R q f [] h = tt
kept_so P R q f (x ∷ xs) h = by (q x) refl (kept_so P R q f xs h.1)
  where
    by : (b : Bool) → q x ≡ b → AllByRecursion R (filter q xs) → AllByRecursion R (cond b (x ∷ filter q xs) (filter q xs))
    by true is later = (f x h.0 is, later)
    by false is later = later

all_two : {X : Type 0} (P Q : X → Type 0) (xs : List X) → AllByRecursion P xs → AllByRecursion Q xs → AllByRecursion (λ x. P x × Q x) xs
all_two P Q [] h k = tt
all_two P Q (x ∷ xs) h k = ((h.0, k.0), all_two P Q xs h.1 k.1)

module _ (w : World) (n : ℕ) (k : Kept) (sound : IsSoundBook k) (ok : BookOk w.nodes n k) where
  -- a tunnel that comes back is founded in the book
  back_founded : (m : Restored) → Among m.tunnel k.tunnels → m.calls ≡ calls_of m.tunnel.local k.calls
      → IsFounded w.nodes n (k.tunnel_ceiling + 1) (k.session_ceiling + 1) m
  back_founded m among calls = record {
    local = (let t = all_among (IsSoundTunnel k.tunnel_ceiling) k.tunnels m.tunnel sound.tunnels among in let low = t.within in omega
        (arith, low));
    remote = all_among (λ (b : BookTunnel). b.remote < 65536) k.tunnels m.tunnel ok.tunnels among;
    calls = rw calls
        (kept_so (λ (c : BookCall). IsSoundCall k.session_ceiling c × BooksCall w.nodes n k.tunnels c)
        (λ (c : BookCall). (c.local < k.session_ceiling + 1) × CallBooked w.nodes n m.tunnel.peer c)
        (λ (c : BookCall). c.tunnel == m.tunnel.local)
        (λ c h is. (
          (let low = h.0.within in omega (arith, low)),
          all_among (λ (b : BookTunnel). b.local ≡ c.tunnel → CallBooked w.nodes n b.peer c) k.tunnels m.tunnel h.1 among
              (sym (eqb-true c.tunnel m.tunnel.local is)),
        ))
        k.calls (all_two (IsSoundCall k.session_ceiling) (BooksCall w.nodes n k.tunnels) k.calls sound.calls ok.calls));
  }

  one_founded : (m : Move) → IsOfStart k m → Founded w.nodes n (k.tunnel_ceiling + 1) (k.session_ceiling + 1) m
  one_founded (move.Restored m) h = back_founded m h.0 h.1
  one_founded m h = tt

-- nothing is handed up in it
no_ups : (os : List Out) → AllByRecursion IsSentOrGone os → flat_map ups_of_output os ≡ []
no_ups [] h = refl
no_ups (Send peer bytes origin ∷ os) h = no_ups os h.1
no_ups (Gone session ∷ os) h = no_ups os h.1
no_ups (Up session side frame ∷ os) h = absurd h.0
no_ups (Drop x ∷ os) h = absurd h.0
no_ups (Cause x ∷ os) h = absurd h.0

one_no_up : (k : Kept) (m : Move) → IsOfStart k m → ups_of_move m ≡ []
one_no_up k (move.FrameUp m) h = absurd h
one_no_up k m h = refl

no_moves_up : (k : Kept) (ms : List Move) → AllByRecursion (IsOfStart k) ms → flat_map ups_of_move ms ≡ []
no_moves_up k [] h = refl
no_moves_up k (m ∷ ms) h = rw (one_no_up k m h.0) (no_moves_up k ms h.1)

module _ (calm : Bool) (codecs : Codecs) (laws : StepLaws) (number : ℕ) (w : World) (gs : List Passage) (holds : Holds calm w gs)
    (below : Below number gs)
    (nodes : NodesHold w) where
  -- ---- steps

  module _ (n : ℕ) (old : Node) (was : at w.nodes n ≡ Some old) (up : old.up ≡ true) (moment : ℕ) (block : List ℕ) (ev : Event)
      (real : IsReal calm w gs n ev) where
    abbrev s : Stepped
    s = plain_step old.end moment block ev

    holds_up : HoldsUp old
    holds_up = (nodes n old was).up up

    booked : StepIsBooked old.end old.checkpoint.book s
    booked = laws.booked old.end old.checkpoint.book holds_up.kept holds_up.fit holds_up.book moment block ev

    chain : IsChain old.end moment ev s
    chain = laws.chains old.end holds_up.kept moment block ev

    no_starts : AllByRecursion IsOfNoStart s.moves
    no_starts = laws.starts old.end moment block ev

    -- all was committed
    is_step : (c : Checkpoint) → commits old.checkpoint (contents_of old.end s) ≡ IsWhole c → IsStep calm w n old moment ev s c
    is_step c whole = record {
      chain = chain;
      starts = λ still. no_starts;
      founded = all_map IsOfNoStart _
          (λ m is. of_no_start w.nodes n old.end.tunnel_ids.next old.end.session_ids.next m is) s.moves no_starts;
      looks = laws.looks old.end holds_up.kept holds_up.looks moment block ev;
      ups = laws.ups old.end moment block ev;
      book = subst (Mirrors s.end) (sym (whole_book old.checkpoint (contents_of old.end s) booked.in_place c whole)) booked.book.mirrors;
    }

    -- it was cut off
    here : At calm n old w old.end
    here = record {
      node = old;
      is = was;
      end_is = refl;
      checkpoint_is = refl;
      role = refl;
      end = (holds.nodes n old was).end;
      births = (holds.nodes n old was).births;
    }

    cut_at : (c : Checkpoint) → commits old.checkpoint (contents_of old.end s) ≡ IsCut c → CutBook w n old.end c
    cut_at c cut =
        let rs = contents_of old.end s in
        let k = old.checkpoint.book in
        let f = cut_front old.checkpoint rs booked.in_place c cut in
        let drawn = holds_up.fit.session_ids.drawn in
        let same = holds_up.book.session_ceiling in
        let rises = ceilings_rise k (take f.0 rs) f.1 in
        record {
          sound = cut_book old.checkpoint rs (nodes n old was).sound booked.in_place c cut;
          above = (let is = ap (λ (j : Kept). j.session_ceiling) f.2 in omega (arith, drawn, same, rises, is));
          book = subst (BookOk w.nodes n) (sym f.2)
              (step_fronts calm codecs.digits w n old here moment ev
              (heard_of calm w gs n ev real) k holds_up.fit.tables holds_up.book.mirrors
              (holds.nodes n old was).book s no_starts chain.chain f.0);
        }

  -- a node as a line finds it
  pub whole_ok : (n : ℕ) (ev : Event) (sender : Option Sender) (node : Node) → IsAt w n node → node.up ≡ true → IsReal calm w gs n ev
      → (c : Checkpoint)
      → commits node.checkpoint (contents_of node.end (plain_step node.end node.clock (block_of n number) ev)) ≡ IsWhole c
      → StepOk calm number w gs n node.end node.clock ev (plain_step node.end node.clock (block_of n number) ev).moves
      (after_step w number n (record node { checkpoint = c }) sender (plain_step node.end node.clock (block_of n number) ev))
  whole_ok n ev sender node is up real c whole =
      subst (λ (q : Node). q.up ≡ true
      → commits q.checkpoint (contents_of q.end (plain_step q.end q.clock (block_of n number) ev)) ≡ IsWhole c
      → StepOk calm number w gs n q.end q.clock ev (plain_step q.end q.clock (block_of n number) ev).moves
      (after_step w number n (record q { checkpoint = c }) sender (plain_step q.end q.clock (block_of n number) ev))) (sym is.same)
      (λ up whole. step_ok calm codecs number w gs holds below n is.before is.there is.before.up node.clock node.access c ev real node.clock sender
      (plain_step is.before.end node.clock (block_of n number) ev)
      (is_step n is.before is.there up node.clock (block_of n number) ev real c whole))
      up whole

  pub cut_ok : (n : ℕ) (ev : Event) (node : Node) (is : IsAt w n node) → node.up ≡ true → IsReal calm w gs n ev → (c : Checkpoint)
      → commits node.checkpoint (contents_of node.end (plain_step node.end node.clock (block_of n number) ev)) ≡ IsCut c
      → CutBook w n is.before.end c
  cut_ok n ev node is up real c cut =
      subst (λ (q : Node). q.up ≡ true
      → commits q.checkpoint (contents_of q.end (plain_step q.end q.clock (block_of n number) ev)) ≡ IsCut c
      → CutBook w n is.before.end c) (sym is.same)
      (λ up cut. cut_at n is.before is.there up node.clock (block_of n number) ev real c cut)
      up cut

  -- a node that is up and falls
  pub crash_ok : (n : ℕ) (old : Node) → at w.nodes n ≡ Some old → old.up ≡ true → CutBook w n old.end old.checkpoint
  crash_ok n old was up =
      let u = (nodes n old was).up up in
      let drawn = u.fit.session_ids.drawn in
      let same = u.book.session_ceiling in
      record { sound = (nodes n old was).sound; above = omega (arith, drawn, same); book = (holds.nodes n old was).book }

  -- ---- starts

  module _ (n : ℕ) (old : Node) (was : at w.nodes n ≡ Some old) (down : old.up ≡ false) (calms : calm ≡ true → ⊥) where
    abbrev k : Kept
    k = old.checkpoint.book

    abbrev started : Stepped
    started = starts old.end.role old.end.config k old.clock (block_of n number)

    h : HoldsNode old
    h = nodes n old was

    bare : bare_end old.end.role old.end.config k ≡ old.end
    bare = sym (h.down down)

    start_booked : StartIsBooked old.end k started
    start_booked = subst (λ (e : End). StartIsBooked e k started) bare
        (laws.start_booked old.end.role old.end.config k h.sound h.suits old.clock (block_of n number))

    start_moves : AllByRecursion (IsOfStart k) started.moves
    start_moves = laws.start_moves old.end.role old.end.config k h.sound old.clock (block_of n number)

    tunnels : k.tunnel_ceiling + 1 ≡ old.end.tunnel_ids.next
    tunnels = ap (λ (e : End). e.tunnel_ids.next) bare

    sessions : k.session_ceiling + 1 ≡ old.end.session_ids.next
    sessions = ap (λ (e : End). e.session_ids.next) bare

    is_start : (c : Checkpoint) → commits old.checkpoint (contents_of old.end started) ≡ IsWhole c
        → IsStep calm w n old old.clock OpenTunnel started c
    is_start c whole = record {
      chain = subst (λ (e : End). IsChain e old.clock OpenTunnel started) bare
          (laws.start_chains old.end.role old.end.config k h.sound old.clock (block_of n number) OpenTunnel);
      starts = λ still. absurd (calms still);
      founded = all_map (IsOfStart k) _
          (λ m is. subst (λ q. Founded w.nodes n q old.end.session_ids.next m) tunnels
          (subst (λ q. Founded w.nodes n (k.tunnel_ceiling + 1) q m) sessions
          (one_founded w n k h.sound (holds.nodes n old was).book m is)))
          started.moves start_moves;
      looks = start_booked.looks;
      ups = no_ups started.outputs (laws.start_sends old.end.role old.end.config k old.clock (block_of n number)) ∙ sym
          (no_moves_up k started.moves start_moves);
      book = subst (Mirrors started.end)
          (sym (whole_book old.checkpoint (contents_of old.end started) start_booked.in_place c whole)) start_booked.book.mirrors;
    }

    -- what is sent is of a link that is opened
    pub start_gives : (g : Passage) → StepGives number n old.end old.clock OpenTunnel started.moves g → LineGives number w (Start n) g
    start_gives g q = by q.why
      where
        by : WhyGiven old.end old.clock OpenTunnel started.moves g → LineGives number w (Start n) g
        by (ByEvent is) = ⊎_elim (λ (e : OpenTunnel ≡ Payload g.session g.frame). absurd cc)
            (λ (e : OpenTunnel ≡ Lower g.session g.frame). absurd cc) is
        by (ByLinkIn lns gives) =
            let block : block_of n number ≡ block_of g.node g.line = rw (q.number_is, q.node_is) refl in
            ByStart q.number_is (q.role_is ∙ lns) (rw q.node_is refl) (record {
              node = old;
              there = rw q.node_is was;
              down = down;
              in_start = subst (λ b. GivesInMoves old.end old.clock OpenTunnel
                  (starts old.end.role old.end.config k old.clock b).moves g) block gives;
            })

    pub start_ok : (access : Option Access) (c : Checkpoint) → commits old.checkpoint (contents_of old.end started) ≡ IsWhole c
        → StepOk calm number w gs n old.end old.clock OpenTunnel started.moves
        (after_step w number n (record old { up = true; access = access; checkpoint = c }) None started)
    start_ok access c whole =
        step_ok calm codecs number w gs holds below n old was true old.clock access c OpenTunnel tt old.clock None started
        (is_start c whole)

    pub start_cut : (c : Checkpoint) → commits old.checkpoint (contents_of old.end started) ≡ IsCut c → CutBook w n old.end c
    start_cut c cut =
        let rs = contents_of old.end started in
        let f = cut_front old.checkpoint rs start_booked.in_place c cut in
        let rises = ceilings_rise k (take f.0 rs) f.1 in
        let next = sessions in
        record {
          sound = cut_book old.checkpoint rs h.sound start_booked.in_place c cut;
          above = (let is = ap (λ (j : Kept). j.session_ceiling) f.2 in omega (arith, next, rises, is));
          book = subst (BookOk w.nodes n) (sym f.2)
              (start_fronts w.nodes n k (holds.nodes n old was).book k old.end started start_moves k
              (record { tunnels = refl; calls = refl }) f.0);
        }
