-- A claim, a run and an end leave a coherent state.
use Rattle.sj_core.proofs.Words.{after, Claim, Coherent, End, IsKeptByClaims, IsKeptByEnds, IsKeptByRuns, refl, Run}
use Rattle.sj_core.proofs.{ClaimKeeps.Claims-coherent, Ending.Ends-coherent, Eviction.evicted-after, Running.Runs-coherent}

pub Claims-keeps_coherence : IsKeptByClaims Coherent
Claims-keeps_coherence p m s t w h claim = Claims-coherent p m s h t w (after p m s (Claim t w)) claim (evicted-after p m s t w)

pub Runs-keeps_coherence : IsKeptByRuns Coherent
Runs-keeps_coherence p m s t w h run = Runs-coherent p m s h t w (after p m s (Run t w)) run refl

pub Ends-keep_coherence : IsKeptByEnds Coherent
Ends-keep_coherence p m s t w h ended = Ends-coherent p m s h t w (after p m s (End t w)) ended refl
