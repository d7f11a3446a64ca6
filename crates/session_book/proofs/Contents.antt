-- What the makers of contents write is what spells their record, and is read again.
use Rattle.std.proofs.Common.{◌≡◌, ℕ, ◌^◌, ◌<◌, List, [], ◌∷◌, Some, Bool, true, false, length, replicate, slice_set, refl, sym, ◌∙◌, ap, arith}
use mir.Val.{bool_byte}
use Rattle.byteorder.specs.Numbers.{big_number-reads_back}
use Rattle.wire_base.specs.Numbers.{u16_bytes, u32_bytes}
use Rattle.session_book.specs.declared.record.BookTunnel.{BookTunnel}
use Rattle.session_book.specs.declared.record.Record.TheVariants.{Ceiling, TunnelUp, TunnelDown, CallUp, CallDown, Mark}
use Rattle.session_book.specs.Records.{record_of, with_bytes}
use Rattle.session_book.specs.Spelling.{content_of, RecordsAreReadAgain}

-- a content with a kind alone
abbrev pub of_kind : ℕ → List ℕ
of_kind kind = slice_set (replicate 31 0) 0 kind

pub tunnel_down_read : (l : ℕ) → l < 2 ^ 16 → record_of (with_bytes (of_kind 3) 1 (u16_bytes l)) ≡ Some (TunnelDown l)
unfolding record_of u16_bytes
tunnel_down_read l lt = ap (λ n. Some (TunnelDown n)) (big_number-reads_back 2 l (replicate 28 0) lt)

pub call_down_read : (l : ℕ) → l < 2 ^ 16 → record_of (with_bytes (of_kind 5) 1 (u16_bytes l)) ≡ Some (CallDown l)
unfolding record_of u16_bytes
call_down_read l lt = ap (λ n. Some (CallDown n)) (big_number-reads_back 2 l (replicate 28 0) lt)

pub ceiling_read : (s n : ℕ) → n < 2 ^ 32 → record_of (with_bytes (slice_set (of_kind 1) 1 s) 2 (u32_bytes n)) ≡ Some (Ceiling s n)
unfolding record_of u32_bytes
ceiling_read s n lt = ap (λ m. Some (Ceiling s m)) (big_number-reads_back 4 n (replicate 25 0) lt)

same_mark : (l l' m m' : ℕ) → l ≡ l' → m ≡ m' → Some (Mark l m) ≡ Some (Mark l' m')
same_mark l l' m m' a b = cc

pub mark_read : (l m : ℕ) → l < 2 ^ 16 → m < 2 ^ 32 → record_of (with_bytes (with_bytes (of_kind 6) 1 (u16_bytes l)) 3 (u32_bytes m)) ≡ Some (Mark l m)
unfolding record_of u16_bytes u32_bytes
mark_read l m lt lm = same_mark _ l _ m (big_number-reads_back 2 l (replicate 28 0) lt) (big_number-reads_back 4 m (replicate 24 0) lm)

same_tunnel : {l l' r r' p p' w w' f f' : ℕ} → l ≡ l' → r ≡ r' → p ≡ p' → w ≡ w' → f ≡ f' → Some (TunnelUp (record { local = l; remote = r; peer = p; window = w; flags = f; mark = 0 })) ≡ Some (TunnelUp (record { local = l'; remote = r'; peer = p'; window = w'; flags = f'; mark = 0 }))
same_tunnel a b c d e = cc

pub tunnel_up_read : (l r p w f : ℕ) → l < 2 ^ 16 → r < 2 ^ 16 → p < 2 ^ 32 → w < 2 ^ 16 → f < 2 ^ 16 → record_of (with_bytes (with_bytes (with_bytes (with_bytes (with_bytes (of_kind 2) 1 (u16_bytes l)) 3 (u16_bytes r)) 5 (u32_bytes p)) 9 (u16_bytes w)) 11 (u16_bytes f)) ≡ Some (TunnelUp (record { local = l; remote = r; peer = p; window = w; flags = f; mark = 0 }))
unfolding record_of u16_bytes u32_bytes
tunnel_up_read l r p w f ll lr lp lw lf =
    same_tunnel (big_number-reads_back 2 l [] ll) (big_number-reads_back 2 r [] lr) (big_number-reads_back 4 p [] lp) (big_number-reads_back 2 w [] lw) (big_number-reads_back 2 f [] lf)

same_call : {l l' t t' r r' : ℕ} {s : List ℕ} {q : Bool} → l ≡ l' → t ≡ t' → r ≡ r' → Some (CallUp (record { local = l; tunnel = t; remote = r; subscriber = s; sequenced = q })) ≡ Some (CallUp (record { local = l'; tunnel = t'; remote = r'; subscriber = s; sequenced = q }))
same_call a b c = cc

pub call_up_read : (l t r : ℕ) (s : List ℕ) (q : Bool) → l < 2 ^ 16 → t < 2 ^ 16 → r < 2 ^ 16 → length s ≡ 6 → record_of (slice_set (with_bytes (with_bytes (with_bytes (with_bytes (of_kind 4) 1 (u16_bytes l)) 3 (u16_bytes t)) 5 (u16_bytes r)) 7 s) 13 (bool_byte q)) ≡ Some (CallUp (record { local = l; tunnel = t; remote = r; subscriber = s; sequenced = q }))
unfolding record_of u16_bytes
call_up_read l t r (a ∷ b ∷ c ∷ d ∷ e ∷ f ∷ []) true ll lt lr six =
    same_call (big_number-reads_back 2 l [] ll) (big_number-reads_back 2 t [] lt) (big_number-reads_back 2 r [] lr)
call_up_read l t r (a ∷ b ∷ c ∷ d ∷ e ∷ f ∷ []) false ll lt lr six =
    same_call (big_number-reads_back 2 l [] ll) (big_number-reads_back 2 t [] lt) (big_number-reads_back 2 r [] lr)
call_up_read l t r s q ll lt lr six = absurd (omega arith)

-- ---- exactly what is written

pub tunnel_down_spelled : (l : ℕ) → l < 2 ^ 16 → (with_bytes (of_kind 3) 1 (u16_bytes l)) ≡ content_of (TunnelDown l)
unfolding content_of u16_bytes
tunnel_down_spelled l lt = refl

pub call_down_spelled : (l : ℕ) → l < 2 ^ 16 → (with_bytes (of_kind 5) 1 (u16_bytes l)) ≡ content_of (CallDown l)
unfolding content_of u16_bytes
call_down_spelled l lt = refl

pub ceiling_spelled : (s n : ℕ) → n < 2 ^ 32 → (with_bytes (slice_set (of_kind 1) 1 s) 2 (u32_bytes n)) ≡ content_of (Ceiling s n)
unfolding content_of u32_bytes
ceiling_spelled s n lt = refl

pub mark_spelled : (l m : ℕ) → l < 2 ^ 16 → m < 2 ^ 32 → (with_bytes (with_bytes (of_kind 6) 1 (u16_bytes l)) 3 (u32_bytes m)) ≡ content_of (Mark l m)
unfolding content_of u16_bytes u32_bytes
mark_spelled l m lt lm = refl

pub tunnel_up_spelled : (l r p w f : ℕ) → l < 2 ^ 16 → r < 2 ^ 16 → p < 2 ^ 32 → w < 2 ^ 16 → f < 2 ^ 16 → (with_bytes (with_bytes (with_bytes (with_bytes (with_bytes (of_kind 2) 1 (u16_bytes l)) 3 (u16_bytes r)) 5 (u32_bytes p)) 9 (u16_bytes w)) 11 (u16_bytes f)) ≡ content_of (TunnelUp (record { local = l; remote = r; peer = p; window = w; flags = f; mark = 0 }))
unfolding content_of u16_bytes u32_bytes
tunnel_up_spelled l r p w f ll lr lp lw lf = refl

pub call_up_spelled : (l t r : ℕ) (s : List ℕ) (q : Bool) → l < 2 ^ 16 → t < 2 ^ 16 → r < 2 ^ 16 → length s ≡ 6 → (slice_set (with_bytes (with_bytes (with_bytes (with_bytes (of_kind 4) 1 (u16_bytes l)) 3 (u16_bytes t)) 5 (u16_bytes r)) 7 s) 13 (bool_byte q)) ≡ content_of (CallUp (record { local = l; tunnel = t; remote = r; subscriber = s; sequenced = q }))
unfolding content_of u16_bytes
call_up_spelled l t r (a ∷ b ∷ c ∷ d ∷ e ∷ f ∷ []) true ll lt lr six = refl
call_up_spelled l t r (a ∷ b ∷ c ∷ d ∷ e ∷ f ∷ []) false ll lt lr six = refl
call_up_spelled l t r s q ll lt lr six = absurd (omega arith)

same_up : (t : BookTunnel) → t.mark ≡ 0 → record t { mark = 0 } ≡ t
same_up t none = ap (λ (m : ℕ). record t { mark = m }) (sym none)

pub read_again : RecordsAreReadAgain
read_again (Ceiling space number) fits = ap record_of (sym (ceiling_spelled space number fits)) ∙ ceiling_read space number fits
read_again (TunnelUp t) fits =
    let f = fits.0 in
    ap (λ (x : BookTunnel). record_of (content_of (TunnelUp x))) (sym (same_up t fits.1))
    ∙ ap record_of (sym (tunnel_up_spelled t.local t.remote t.peer t.window t.flags f.local f.remote f.peer f.window f.flags))
    ∙ tunnel_up_read t.local t.remote t.peer t.window t.flags f.local f.remote f.peer f.window f.flags
    ∙ ap (λ (x : BookTunnel). Some (TunnelUp x)) (same_up t fits.1)
read_again (TunnelDown local) fits = ap record_of (sym (tunnel_down_spelled local fits)) ∙ tunnel_down_read local fits
read_again (CallUp c) fits =
    ap record_of (sym (call_up_spelled c.local c.tunnel c.remote c.subscriber c.sequenced fits.local fits.tunnel fits.remote fits.subscriber))
    ∙ call_up_read c.local c.tunnel c.remote c.subscriber c.sequenced fits.local fits.tunnel fits.remote fits.subscriber
read_again (CallDown local) fits = ap record_of (sym (call_down_spelled local fits)) ∙ call_down_read local fits
read_again (Mark tunnel mark) fits = ap record_of (sym (mark_spelled tunnel mark fits.0 fits.1)) ∙ mark_read tunnel mark fits.0 fits.1
