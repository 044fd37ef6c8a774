mod Cuts
mod Levels
mod Feeds
mod KeyLemmas
mod PairLemmas
mod LineCounts
mod OneRowMore
mod OneLineMore
