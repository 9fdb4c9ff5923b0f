mod ListedItems
mod ListedPools
mod WalkedEntries
